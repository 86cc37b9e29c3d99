-- Lists without repeats, and equal lengths by a pairing.
--   Distinct l    <-> no element of l stands at two places of it
--   get_or_mem, mem_get_or : a member stands at a place, and what stands at a place is a member
--   distinct_append, distinct_map, distinct_once : where the lists of scans and numbers have no repeats
--   paired_length  : two lists without repeats, whose members are paired one to one, have equal lengths
-- Assumes nothing.
use mathlib.Core.Path.{◌≡◌, refl, sym, ◌∙◌, ap, subst}
use mathlib.Core.Logic.{⊎_elim}
use mathlib.Core.List.Memᴰ
use mathlib.Core.List.{
  List,
  [],
  ◌∷◌,
  ◌++◌,
  map,
  Memᴰ,
}
use Prim.Native.Nat.{ℕ, zero, suc, ◌<◌, ◌≤◌}
use native.Mathlib.Omega.{arith}
use lib.ListN.{length, get_or, length-append}
use Rattle.theory.specs.Letters.{up_to}
use Rattle.theory.proofs.TableLaws.{Once, length-up_to, get_or-up_to}

-- no element stands at two places
abbrev pub Distinct : {A : Type 0} → List A → Type 0
Distinct [] = Unit {0}
Distinct (a ∷ l) = (Memᴰ a l → ⊥) × Distinct l

module _ {A : Type 0} where
  -- what stands at a place is a member
  pub mem_get_or : (l : List A) (i : ℕ) (d : A) → i < length l → Memᴰ (get_or l i d) l
  mem_get_or [] i d h = absurd (omega arith)
  mem_get_or (a ∷ l) zero d h = Memᴰ.head refl
  mem_get_or (a ∷ l) (suc i) d h = Memᴰ.tail (mem_get_or l i d (omega arith))

  -- a member stands at a place
  pub get_or_mem : {a : A} {l : List A} (d : A) → Memᴰ a l → (i : ℕ) × (i < length l) × (get_or l i d ≡ a)
  get_or_mem d (Memᴰ.head e) = (zero, omega arith, sym e)
  get_or_mem d (Memᴰ.tail m) = let p = get_or_mem d m in (suc p.0, omega arith, p.2)

  -- joined lists that share nothing
  pub distinct_append : (l m : List A) → Distinct l → Distinct m → ((a : A) → Memᴰ a l → Memᴰ a m → ⊥) → Distinct (l ++ m)
  distinct_append [] m p q f = q
  distinct_append (a ∷ l) m p q f = (
    λ h. ⊎_elim p.0 (f a (Memᴰ.head refl)) (Memᴰ.append_cases l h),
    distinct_append l m p.1 q (λ b h. f b (Memᴰ.tail h)),
  )

  -- a member parts a list in two
  parted : {a : A} {l : List A} → Memᴰ a l → (s : List A) × (t : List A) × (l ≡ s ++ (a ∷ t))
  parted {a} (Memᴰ.head {x = x} {xs = xs} e) = ([], xs, ap (λ b. b ∷ xs) (sym e))
  parted (Memᴰ.tail {x = x} {xs = xs} m) = let p = parted m in (x ∷ p.0, p.1, ap (λ r. x ∷ r) p.2)

module _ {A B : Type 0} where
  -- the image of a member is a member
  pub mem_map : (f : A → B) {a : A} {l : List A} → Memᴰ a l → Memᴰ (f a) (map f l)
  mem_map f (Memᴰ.head e) = Memᴰ.head (ap f e)
  mem_map f (Memᴰ.tail m) = Memᴰ.tail (mem_map f m)

  -- a member of a mapped list is the image of a member
  pub map_mem : (f : A → B) (l : List A) {b : B} → Memᴰ b (map f l) → (a : A) × Memᴰ a l × (b ≡ f a)
  map_mem f [] m = absurd (Memᴰ.not-nil m)
  map_mem f (x ∷ l) {b} m = ⊎_elim (λ e. (x, Memᴰ.head refl, e)) (λ n. later (map_mem f l n)) (Memᴰ.cases_cons m)
    where
      later : (a : A) × Memᴰ a l × (b ≡ f a) → (a : A) × Memᴰ a (x ∷ l) × (b ≡ f a)
      later p = (p.0, Memᴰ.tail p.1, p.2)

  -- a list mapped one to one
  pub distinct_map : (f : A → B) → ((a b : A) → f a ≡ f b → a ≡ b) → (l : List A) → Distinct l → Distinct (map f l)
  distinct_map f one [] p = tt
  distinct_map f one (a ∷ l) p =
      (λ h. let m = map_mem f l h in p.0 (Memᴰ.cast (one a m.0 m.2) m.1), distinct_map f one l p.1)

  -- a list without repeats that goes into another, and comes back, is no longer
  into_length : (f : A → B) (g : B → A) (l : List A) (m : List B) → Distinct l → ((a : A) → Memᴰ a l → Memᴰ (f a) m × (g (f a) ≡ a)) → length l ≤ length m
  into_length f g [] m d h = omega arith
  into_length f g (a ∷ l) m d h = go (parted (h a (Memᴰ.head refl)).0) (λ n k. into_length f g l n d.1 k)
    where
      go : (s : List B) × (t : List B) × (m ≡ s ++ (f a ∷ t)) → ((n : List B) → ((b : A) → Memᴰ b l → Memᴰ (f b) n × (g (f b) ≡ b)) → length l ≤ length n) → suc (length l) ≤ length m
      go p r =
          omega (arith, r (p.0 ++ p.1) kept, ap length p.2, length-append p.0 (f a ∷ p.1), length-append p.0 p.1)
        where
          -- another member goes elsewhere, since what comes back is another
          kept : (b : A) → Memᴰ b l → Memᴰ (f b) (p.0 ++ p.1) × (g (f b) ≡ b)
          kept b k =
              let e = h b (Memᴰ.tail k) in
              let other : f b ≡ f a → ⊥ = λ z. d.0 (Memᴰ.cast (sym (h a (Memᴰ.head refl)).1 ∙ ap g (sym z) ∙ e.1) k) in (
                ⊎_elim (Memᴰ.append_left p.1)
                    (λ q. Memᴰ.append_right p.0 (⊎_elim (λ z. absurd (other z)) (λ z. z) (Memᴰ.cases_cons q)))
                    (Memᴰ.append_cases p.0 (subst (λ n. Memᴰ (f b) n) p.2 e.0)),
                e.1,
              )

-- two lists without repeats, whose members are paired one to one, have equal lengths
pub paired_length : {A B : Type 0} (f : A → B) (g : B → A) (l : List A) (m : List B) → Distinct l → Distinct m → ((a : A) → Memᴰ a l → Memᴰ (f a) m × (g (f a) ≡ a)) → ((b : B) → Memᴰ b m → Memᴰ (g b) l × (f (g b) ≡ b)) → length l ≡ length m
paired_length f g l m p q h k = omega (arith, into_length f g l m p h, into_length g f m l q k)

-- a letter order in which no letter stands twice has no repeats
pub distinct_once : (ys : List ℕ) → Once ys → Distinct ys
distinct_once [] h = tt
distinct_once (y ∷ ys) h = (
  λ m. let p = get_or_mem 0 m in absurd (omega (arith, h 0 (suc p.0) (omega arith) (omega arith) (sym p.2))),
  distinct_once ys (λ i j hi hj e. omega (arith, h (suc i) (suc j) (omega arith) (omega arith) e)),
)

-- a member of the numbers below k is below k
pub up_to_mem : (k : ℕ) {i : ℕ} → Memᴰ i (up_to k) → i < k
unfolding up_to
up_to_mem zero m = absurd (Memᴰ.not-nil m)
up_to_mem (suc k) m =
    ⊎_elim (λ n. omega (arith, up_to_mem k n)) (λ n. omega (arith, Memᴰ.eq_of_singleton n)) (Memᴰ.append_cases (up_to k) m)

-- each number below k is a member
pub mem_up_to : (k i : ℕ) → i < k → Memᴰ i (up_to k)
mem_up_to k i h = Memᴰ.cast (sym (get_or-up_to k i h)) (mem_get_or (up_to k) i 0 (omega (arith, length-up_to k)))

-- the numbers below k have no repeats
pub distinct_up_to : (k : ℕ) → Distinct (up_to k)
unfolding up_to
distinct_up_to zero = tt
distinct_up_to (suc k) =
    distinct_append (up_to k) (k ∷ []) (distinct_up_to k) (λ m. Memᴰ.not-nil m, tt)
    (λ a m n. omega (arith, up_to_mem k m, Memᴰ.eq_of_singleton n))
