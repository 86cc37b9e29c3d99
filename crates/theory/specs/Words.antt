-- Words over letters and their inverses (004, definitions 2.1 and 3.1). A letter is its number, a word a list of letters.
--   inv y          == the inverse letter: 0 and 1, 2 and 3, .. are inverse to each other
--   reduced w      == w with neighbouring inverse letters removed until none is left
--   u ≈ v         <-> u and v are equal after reduction
--   inverse_of w    == w backwards, each letter inverted
--   product ws ks  == the words of ws that the signed numbers ks name, joined: k is word k, −k its inverse
--   Member ws q   <-> some product of words of ws and their inverses reduces to what q reduces to
--   Tidy ks       <-> no number of ks stands beside its own inverse
-- `reduced_by` and `inverse_by` say it once for two alphabets: letters, and signed numbers of words.
-- Cited by contracts and by every law. Assumes nothing.
use Rattle.std.specs.Prelude.{◌≡◌, Bool, false, cond, List, [], ◌∷◌, ◌++◌, ℕ, zero, suc, ◌+◌, ◌-◌, ◌*◌, ◌%◌, ◌<◌, eqb, ℤ, pos, negsuc, neg_ℤ, length, get_or}

-- the letter that undoes y: its neighbour in the letter order a, A, b, B, ..
unfoldable pub inv : ℕ → ℕ
inv y = y + 1 - 2 * (y % 2)

module _ {A : Type 0} (cancels : A → A → Bool) where
  -- y put in front of a reduced word: it goes, with the first letter, where the two cancel
  unfoldable pub put : A → List A → List A
  put y [] = y ∷ []
  put y (x ∷ w) = cond (cancels y x) w (y ∷ x ∷ w)

  -- free reduction: neighbours that cancel are removed until none is left
  unfoldable pub reduced_by : List A → List A
  reduced_by [] = []
  reduced_by (y ∷ w) = put y (reduced_by w)

  -- no two neighbours cancel
  abbrev pub NoneCancels : List A → Type 0
  NoneCancels [] = Unit {0}
  NoneCancels (y ∷ []) = Unit {0}
  NoneCancels (y ∷ (x ∷ w)) = (cancels y x ≡ false) × NoneCancels (x ∷ w)

-- a list backwards, each element inverted
unfoldable pub inverse_by : {A : Type 0} → (A → A) → List A → List A
inverse_by inv [] = []
inverse_by inv (y ∷ w) = inverse_by inv w ++ (inv y ∷ [])

-- letter x undoes letter y
abbrev pub undoes : ℕ → ℕ → Bool
undoes y x = eqb x (inv y)

abbrev pub reduced : List ℕ → List ℕ
reduced = reduced_by undoes

-- w is reduced: no inverse neighbours
abbrev pub Reduced : List ℕ → Type 0
Reduced = NoneCancels undoes

infix 20 ◌≈◌
abbrev pub ◌≈◌ : List ℕ → List ℕ → Type 0
u ≈ v = reduced u ≡ reduced v

abbrev pub inverse_of : List ℕ → List ℕ
inverse_of = inverse_by inv

-- the word that a signed number names: k is word k, counted from 1, and −k its inverse
unfoldable pub named : List (List ℕ) → ℤ → List ℕ
named ws (pos zero) = []
named ws (pos (suc k)) = get_or ws k []
named ws (negsuc k) = inverse_of (get_or ws k [])

unfoldable pub product : List (List ℕ) → List ℤ → List ℕ
product ws [] = []
product ws (k ∷ ks) = named ws k ++ product ws ks

-- k names a word of a list of m words: it is 1 to m, or −1 to −m
abbrev pub Names : ℕ → ℤ → Type 0
Names m (pos zero) = ⊥
Names m (pos (suc k)) = k < m
Names m (negsuc k) = k < m

abbrev pub AllNames : ℕ → List ℤ → Type 0
AllNames m [] = Unit {0}
AllNames m (k ∷ ks) = Names m k × AllNames m ks

pub record Member (ws : List (List ℕ)) (q : List ℕ) : Type 0 where
  pub numbers : List ℤ
  pub listed : AllNames (length ws) numbers
  pub reduces : product ws numbers ≈ q

-- two signed numbers are equal
abbrev pub sameℤ : ℤ → ℤ → Bool
sameℤ (pos j) (pos k) = eqb j k
sameℤ (pos j) (negsuc k) = false
sameℤ (negsuc j) (pos k) = false
sameℤ (negsuc j) (negsuc k) = eqb j k

abbrev pub opposite : ℤ → ℤ → Bool
opposite j k = sameℤ k (neg_ℤ j)

abbrev pub Tidy : List ℤ → Type 0
Tidy = NoneCancels opposite

-- two lists generate the same subgroup: each word that is a member of one is a member of the other
pub record SameSubgroup (us ws : List (List ℕ)) : Type 0 where
  pub onward : (q : List ℕ) → Member us q → Member ws q
  pub back : (q : List ℕ) → Member ws q → Member us q
