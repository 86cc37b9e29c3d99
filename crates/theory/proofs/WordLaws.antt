-- Laws of reduction, inverses, products and members (`specs/Words`), for any alphabet with inverses where they are about lists alone.
--   Inverses inv cancels <-> inv undoes itself, and x cancels y exactly if x is y's inverse
-- Nothing here asks a bound of a letter. Assumes nothing.
use mathlib.Core.Path.{◌≡◌, refl, sym, ◌∙◌, ap, subst}
use mathlib.Core.Bool.{Bool, true, false, true≢false}
use mathlib.Core.List.{List, [], ◌∷◌, ◌++◌, reverse, reverse-cons, append_assoc, append-nil}
use Prim.Native.Nat.{ℕ, zero, suc, ◌<◌}
use native.Mathlib.Omega.{arith}
use lib.IntN.{ℤ, pos, negsuc, neg_ℤ, neg_ℤ-neg_ℤ}
use lib.ListN.{length, get_or}
use borrow.Author.Tests.{eq-eqb, eqb-true}
use Rattle.theory.specs.Words.{inv, put, reduced_by, NoneCancels, undoes, reduced, ◌≈◌, inverse_by, inverse_of, named, product, Names, AllNames, Member, sameℤ, opposite}

pub record Inverses {A : Type 0} (inv : A → A) (cancels : A → A → Bool) : Type 0 where
  pub twice : (y : A) → inv (inv y) ≡ y
  pub hit : (y : A) → cancels y (inv y) ≡ true
  pub sound : (y x : A) → cancels y x ≡ true → x ≡ inv y

-- by the two values of a test
pub by_test : {C : Type 0} (b : Bool) → (b ≡ true → C) → (b ≡ false → C) → C
by_test true f g = f refl
by_test false f g = g refl

module _ {A : Type 0} {inv : A → A} {cancels : A → A → Bool} (I : Inverses inv cancels) where
  pub reduced_nil : reduced_by cancels [] ≡ []
  unfolding reduced_by
  reduced_nil = refl

  -- a letter that cancels goes
  put_hit : (y x : A) (w : List A) → cancels y x ≡ true → put cancels y (x ∷ w) ≡ w
  unfolding put
  put_hit y x w e = rw e

  -- a letter that does not cancel stays
  put_miss : (y x : A) (w : List A) → cancels y x ≡ false → put cancels y (x ∷ w) ≡ y ∷ x ∷ w
  unfolding put
  put_miss y x w e = rw e

  -- what follows the first letter of a reduced word is reduced
  none_tail : (y : A) (w : List A) → NoneCancels cancels (y ∷ w) → NoneCancels cancels w
  none_tail y [] h = tt
  none_tail y (x ∷ w) h = h.1

  -- a letter put in front of a reduced word gives a reduced word
  pub put_none : (y : A) (w : List A) → NoneCancels cancels w → NoneCancels cancels (put cancels y w)
  unfolding put
  put_none y [] h = tt
  put_none y (x ∷ w) h =
      by_test (cancels y x) (λ e. rw e (none_tail x w h)) (λ e. rw e (e, h))

  -- a reduced word has no inverse neighbours
  pub reduced_none : (w : List A) → NoneCancels cancels (reduced_by cancels w)
  unfolding reduced_by
  reduced_none [] = tt
  reduced_none (y ∷ w) = put_none y (reduced_by cancels w) (reduced_none w)

  -- a word without inverse neighbours is its own reduction
  pub reduced_fixed : (w : List A) → NoneCancels cancels w → reduced_by cancels w ≡ w
  unfolding reduced_by put
  reduced_fixed [] h = refl
  reduced_fixed (y ∷ []) h = refl
  reduced_fixed (y ∷ (x ∷ w)) h = ap (put cancels y) (reduced_fixed (x ∷ w) h.1) ∙ put_miss y x w h.0

  -- reduction is idempotent
  pub reduced_idem : (w : List A) → reduced_by cancels (reduced_by cancels w) ≡ reduced_by cancels w
  reduced_idem w = reduced_fixed (reduced_by cancels w) (reduced_none w)

  -- a letter after its inverse goes with it
  pub put_put : (y : A) (w : List A) → NoneCancels cancels w → put cancels y (put cancels (inv y) w) ≡ w
  unfolding put
  put_put y [] h = put_hit y (inv y) [] (I.hit y)
  put_put y (x ∷ w) h = by_test (cancels (inv y) x) (λ e. rw e (gone e)) (λ e. rw e (put_hit y (inv y) (x ∷ w) (I.hit y)))
    where
      -- x is y, and what follows x does not cancel with it
      again : (v : List A) → NoneCancels cancels (y ∷ v) → put cancels y v ≡ y ∷ v
      again [] h = refl
      again (z ∷ v) h = put_miss y z v h.0

      gone : cancels (inv y) x ≡ true → put cancels y w ≡ x ∷ w
      gone e =
          let q : x ≡ y = I.sound (inv y) x e ∙ I.twice y in
          again w (subst (λ z. NoneCancels cancels (z ∷ w)) q h) ∙ ap (λ z. z ∷ w) (sym q)

  -- the letters of u put, from the last to the first, in front of r
  abbrev onto : List A → List A → List A
  onto [] r = r
  onto (y ∷ u) r = put cancels y (onto u r)

  onto_none : (u r : List A) → NoneCancels cancels r → NoneCancels cancels (onto u r)
  onto_none [] r h = h
  onto_none (y ∷ u) r h = put_none y (onto u r) (onto_none u r h)

  reduced_onto : (u v : List A) → reduced_by cancels (u ++ v) ≡ onto u (reduced_by cancels v)
  unfolding reduced_by
  reduced_onto [] v = refl
  reduced_onto (y ∷ u) v = ap (put cancels y) (reduced_onto u v)

  onto_put : (y : A) (u r : List A) → NoneCancels cancels r → onto (put cancels y u) r ≡ put cancels y (onto u r)
  unfolding put
  onto_put y [] r h = refl
  onto_put y (x ∷ u) r h = by_test (cancels y x) (λ e. rw e (hits e)) (λ e. rw e)
    where
      hits : cancels y x ≡ true → onto u r ≡ put cancels y (put cancels x (onto u r))
      hits e =
          sym (put_put y (onto u r) (onto_none u r h))
          ∙ ap (λ z. put cancels y (put cancels z (onto u r))) (sym (I.sound y x e))

  onto_reduced : (u r : List A) → NoneCancels cancels r → onto (reduced_by cancels u) r ≡ onto u r
  unfolding reduced_by
  onto_reduced [] r h = refl
  onto_reduced (y ∷ u) r h = onto_put y (reduced_by cancels u) r h ∙ ap (put cancels y) (onto_reduced u r h)

  -- reduction of joined words depends on their reductions alone
  pub reduced_append : (u v : List A) → reduced_by cancels (u ++ v) ≡ reduced_by cancels (reduced_by cancels u ++ reduced_by cancels v)
  reduced_append u v =
      reduced_onto u v
      ∙ sym (onto_reduced u (reduced_by cancels v) (reduced_none v))
      ∙ ap (onto (reduced_by cancels u)) (sym (reduced_idem v))
      ∙ sym (reduced_onto (reduced_by cancels u) (reduced_by cancels v))

  pub append_cong : (u u' v v' : List A) → reduced_by cancels u ≡ reduced_by cancels u' → reduced_by cancels v ≡ reduced_by cancels v' → reduced_by cancels (u ++ v) ≡ reduced_by cancels (u' ++ v')
  append_cong u u' v v' p q = reduced_append u v ∙ ap₂ p q ∙ sym (reduced_append u' v')
    where
      ap₂ : {a b a' b' : List A} → a ≡ a' → b ≡ b' → reduced_by cancels (a ++ b) ≡ reduced_by cancels (a' ++ b')
      ap₂ p q = rw (p, q)

  -- a letter and its inverse reduce to nothing
  pub pair_gone : (y : A) → reduced_by cancels (y ∷ inv y ∷ []) ≡ []
  unfolding reduced_by put
  pair_gone y = put_hit y (inv y) [] (I.hit y)

  -- what reduces to nothing may stand anywhere
  pub gone_between : (u v w : List A) → reduced_by cancels v ≡ [] → reduced_by cancels (u ++ (v ++ w)) ≡ reduced_by cancels (u ++ w)
  gone_between u v w e = append_cong u u (v ++ w) w refl (append_cong v [] w w (e ∙ sym reduced_nil) refl)

  pub inverse_append : (u v : List A) → inverse_by inv (u ++ v) ≡ inverse_by inv v ++ inverse_by inv u
  unfolding inverse_by
  inverse_append [] v = sym (append-nil (inverse_by inv v))
  inverse_append (y ∷ u) v =
      ap (λ l. l ++ (inv y ∷ [])) (inverse_append u v) ∙ append_assoc (inverse_by inv v) (inverse_by inv u) (inv y ∷ [])

  pub inverse_inverse : (w : List A) → inverse_by inv (inverse_by inv w) ≡ w
  unfolding inverse_by
  inverse_inverse [] = refl
  inverse_inverse (y ∷ w) =
      inverse_append (inverse_by inv w) (inv y ∷ []) ∙ ap (λ l. inv (inv y) ∷ l) (inverse_inverse w) ∙ ap (λ x. x ∷ w) (I.twice y)

  -- a word with its inverse is empty
  pub inverse_right : (w : List A) → reduced_by cancels (w ++ inverse_by inv w) ≡ []
  unfolding inverse_by reduced_by
  inverse_right [] = refl
  inverse_right (y ∷ w) =
      ap (λ l. reduced_by cancels (y ∷ l)) (sym (append_assoc w (inverse_by inv w) (inv y ∷ [])))
      ∙ gone_between (y ∷ []) (w ++ inverse_by inv w) (inv y ∷ []) (inverse_right w)
      ∙ pair_gone y

  pub inverse_left : (w : List A) → reduced_by cancels (inverse_by inv w ++ w) ≡ []
  inverse_left w =
      ap (λ v. reduced_by cancels (inverse_by inv w ++ v)) (sym (inverse_inverse w)) ∙ inverse_right (inverse_by inv w)

  -- equal reductions have inverses of equal reduction
  pub inverse_cong : (u v : List A) → reduced_by cancels u ≡ reduced_by cancels v → reduced_by cancels (inverse_by inv u) ≡ reduced_by cancels (inverse_by inv v)
  inverse_cong u v e =
      ap (reduced_by cancels) (sym (append-nil (inverse_by inv u)))
      ∙ sym (append_cong (inverse_by inv u) (inverse_by inv u) (v ++ inverse_by inv v) [] refl (inverse_right v ∙ sym reduced_nil))
      ∙ ap (reduced_by cancels) (sym (append_assoc (inverse_by inv u) v (inverse_by inv v)))
      ∙ append_cong (inverse_by inv u ++ v) [] (inverse_by inv v) (inverse_by inv v)
      (append_cong (inverse_by inv u) (inverse_by inv u) v u refl (sym e) ∙ inverse_left u ∙ sym reduced_nil) refl

  -- a reduced word with one letter more, which does not cancel with its last, is reduced
  none_snoc : (r : List A) (x y : A) → NoneCancels cancels (r ++ (x ∷ [])) → cancels x y ≡ false → NoneCancels cancels ((r ++ (x ∷ [])) ++ (y ∷ []))
  none_snoc [] x y h e = (e, tt)
  none_snoc (a ∷ []) x y h e = (h.0, (e, tt))
  none_snoc (a ∷ (b ∷ r)) x y h e = (h.0, none_snoc (b ∷ r) x y h.1 e)

  none_start : (r : List A) (x : A) → NoneCancels cancels (r ++ (x ∷ [])) → NoneCancels cancels r
  none_start [] x h = tt
  none_start (a ∷ []) x h = tt
  none_start (a ∷ (b ∷ r)) x h = (h.0, none_start (b ∷ r) x h.1)

  -- one letter more than a reduced word: it goes with the last letter, or stays
  pub snoc_gone : (r : List A) (x y : A) → NoneCancels cancels (r ++ (x ∷ [])) → y ≡ inv x → reduced_by cancels ((r ++ (x ∷ [])) ++ (y ∷ [])) ≡ r
  snoc_gone r x y h e =
      ap (reduced_by cancels) (append_assoc r (x ∷ []) (y ∷ []) ∙ ap (λ z. r ++ (x ∷ z ∷ [])) e)
      ∙ append_cong r r (x ∷ inv x ∷ []) [] refl (pair_gone x ∙ sym reduced_nil)
      ∙ ap (reduced_by cancels) (append-nil r)
      ∙ reduced_fixed r (none_start r x h)

  pub snoc_kept : (r : List A) (x y : A) → NoneCancels cancels (r ++ (x ∷ [])) → (y ≡ inv x → ⊥) → reduced_by cancels ((r ++ (x ∷ [])) ++ (y ∷ [])) ≡ (r ++ (x ∷ [])) ++ (y ∷ [])
  snoc_kept r x y h ne =
      reduced_fixed ((r ++ (x ∷ [])) ++ (y ∷ []))
      (none_snoc r x y h (by_test (cancels x y) (λ e. absurd (ne (I.sound x y e))) (λ e. e)))

  -- reading from the left, as code does: a stack, its top first; each letter goes with the top or on top of it
  pub stack_read : List A → List A → List A
  stack_read s [] = s
  stack_read s (y ∷ w) = stack_read (put cancels y s) w

  pushed_snoc : (y : A) (s : List A) → NoneCancels cancels (reverse s) → reverse (put cancels y s) ≡ reduced_by cancels (reverse s ++ (y ∷ []))
  unfolding put reduced_by
  pushed_snoc y [] h = refl
  pushed_snoc y (x ∷ s) h =
      by_test (cancels y x)
      (λ e. rw e (rw reverse-cons (sym (snoc_gone (reverse s) x y h' (other e)))))
      (λ e. rw e (rw (reverse-cons y (x ∷ s), reverse-cons x s) (sym (snoc_kept (reverse s) x y h' (miss e)))))
    where
      h' : NoneCancels cancels (reverse s ++ (x ∷ []))
      h' = subst (NoneCancels cancels) (reverse-cons x s) h

      other : cancels y x ≡ true → y ≡ inv x
      other e = sym (I.twice y) ∙ ap inv (sym (I.sound y x e))

      miss : cancels y x ≡ false → y ≡ inv x → ⊥
      miss e q = true≢false (sym (I.hit y) ∙ ap (cancels y) (ap inv q ∙ I.twice x) ∙ e)

  stack_reduced : (s w : List A) → NoneCancels cancels (reverse s) → reverse (stack_read s w) ≡ reduced_by cancels (reverse s ++ w)
  unfolding stack_read
  stack_reduced s [] h = sym (ap (reduced_by cancels) (append-nil (reverse s)) ∙ reduced_fixed (reverse s) h)
  stack_reduced s (y ∷ w) h =
      stack_reduced (put cancels y s) w (subst (NoneCancels cancels) (sym p) (reduced_none (reverse s ++ (y ∷ []))))
      ∙ ap (λ l. reduced_by cancels (l ++ w)) p
      ∙ append_cong (reduced_by cancels (reverse s ++ (y ∷ []))) (reverse s ++ (y ∷ [])) w w (reduced_idem (reverse s ++ (y ∷ []))) refl
      ∙ ap (reduced_by cancels) (append_assoc (reverse s) (y ∷ []) w)
    where
      p : reverse (put cancels y s) ≡ reduced_by cancels (reverse s ++ (y ∷ []))
      p = pushed_snoc y s h

  -- reading from the left gives the reduction
  pub left_reduced : (w : List A) → reverse (stack_read [] w) ≡ reduced_by cancels w
  left_reduced w = stack_reduced [] w tt

-- letters have inverses
pub letters : Inverses inv undoes
unfolding inv
letters = record { twice = λ y. omega arith; hit = λ y. eq-eqb (inv y) (inv y) refl; sound = λ y x e. eqb-true x (inv y) e }

sameℤ_true : (j k : ℤ) → sameℤ j k ≡ true → j ≡ k
sameℤ_true (pos j) (pos k) e = ap pos (eqb-true j k e)
sameℤ_true (pos j) (negsuc k) e = absurd (true≢false (sym e))
sameℤ_true (negsuc j) (pos k) e = absurd (true≢false (sym e))
sameℤ_true (negsuc j) (negsuc k) e = ap negsuc (eqb-true j k e)

sameℤ_refl : (k : ℤ) → sameℤ k k ≡ true
sameℤ_refl (pos k) = eq-eqb k k refl
sameℤ_refl (negsuc k) = eq-eqb k k refl

-- signed numbers have inverses
pub signs : Inverses neg_ℤ opposite
signs = record { twice = neg_ℤ-neg_ℤ; hit = λ k. sameℤ_refl (neg_ℤ k); sound = λ j k e. sameℤ_true k (neg_ℤ j) e }

-- a word and its inverse go where two words meet
pub met_between : (a : List ℕ) (y : ℕ) (b d : List ℕ) → (a ++ (y ∷ inverse_of b)) ++ (b ++ d) ≈ a ++ (y ∷ d)
met_between a y b d =
    ap reduced (grouped (inverse_of b))
    ∙ gone_between letters (a ++ (y ∷ [])) (inverse_of b ++ b) d (inverse_left letters b)
    ∙ ap reduced (append_assoc a (y ∷ []) d)
  where
    grouped : (e : List ℕ) → (a ++ (y ∷ e)) ++ (b ++ d) ≡ (a ++ (y ∷ [])) ++ ((e ++ b) ++ d)
    grouped e = simp append_assoc

-- ── Products ──

-- the word of the inverse number is the inverse word
named_inverse : (ws : List (List ℕ)) (k : ℤ) → named ws (neg_ℤ k) ≡ inverse_of (named ws k)
unfolding named inverse_by
named_inverse ws (pos zero) = refl
named_inverse ws (pos (suc k)) = refl
named_inverse ws (negsuc k) = sym (inverse_inverse letters (get_or ws k []))

pub product_append : (ws : List (List ℕ)) (js ks : List ℤ) → product ws (js ++ ks) ≡ product ws js ++ product ws ks
unfolding product
product_append ws [] ks = refl
product_append ws (j ∷ js) ks =
    ap (λ w. named ws j ++ w) (product_append ws js ks) ∙ sym (append_assoc (named ws j) (product ws js) (product ws ks))

pub product_inverse : (ws : List (List ℕ)) (ks : List ℤ) → product ws (inverse_by neg_ℤ ks) ≡ inverse_of (product ws ks)
unfolding product inverse_by
product_inverse ws [] = refl
product_inverse ws (k ∷ ks) =
    product_append ws (inverse_by neg_ℤ ks) (neg_ℤ k ∷ [])
    ∙ ap (λ w. w ++ (named ws (neg_ℤ k) ++ [])) (product_inverse ws ks)
    ∙ ap (λ w. inverse_of (product ws ks) ++ w) (append-nil (named ws (neg_ℤ k)) ∙ named_inverse ws k)
    ∙ sym (inverse_append letters (named ws k) (product ws ks))

names_append : (m : ℕ) (js ks : List ℤ) → AllNames m js → AllNames m ks → AllNames m (js ++ ks)
names_append m [] ks a b = b
names_append m (j ∷ js) ks a b = (a.0, names_append m js ks a.1 b)

names_neg : (m : ℕ) (k : ℤ) → Names m k → Names m (neg_ℤ k)
names_neg m (pos zero) h = h
names_neg m (pos (suc k)) h = h
names_neg m (negsuc k) h = h

names_inverse : (m : ℕ) (ks : List ℤ) → AllNames m ks → AllNames m (inverse_by neg_ℤ ks)
unfolding inverse_by
names_inverse m [] h = tt
names_inverse m (k ∷ ks) h = names_append m (inverse_by neg_ℤ ks) (neg_ℤ k ∷ []) (names_inverse m ks h.1) (names_neg m k h.0, tt)

-- ── Members: a subgroup ──

pub member_empty : (ws : List (List ℕ)) → Member ws []
unfolding product
member_empty ws = record { numbers = []; listed = tt; reduces = refl }

pub member_append : (ws : List (List ℕ)) (u v : List ℕ) → Member ws u → Member ws v → Member ws (u ++ v)
member_append ws u v a b =
    record {
      numbers = a.numbers ++ b.numbers;
      listed = names_append (length ws) a.numbers b.numbers a.listed b.listed;
      reduces =
          ap reduced (product_append ws a.numbers b.numbers)
          ∙ append_cong letters (product ws a.numbers) u (product ws b.numbers) v a.reduces b.reduces;
    }

pub member_inverse : (ws : List (List ℕ)) (u : List ℕ) → Member ws u → Member ws (inverse_of u)
member_inverse ws u a =
    record {
      numbers = inverse_by neg_ℤ a.numbers;
      listed = names_inverse (length ws) a.numbers a.listed;
      reduces = ap reduced (product_inverse ws a.numbers) ∙ inverse_cong letters (product ws a.numbers) u a.reduces;
    }

-- membership depends on the reduction alone
pub member_cong : (ws : List (List ℕ)) (u v : List ℕ) → u ≈ v → Member ws u → Member ws v
member_cong ws u v e a = record { numbers = a.numbers; listed = a.listed; reduces = a.reduces ∙ e }

-- each listed word is a member
pub member_listed : (ws : List (List ℕ)) (k : ℕ) → k < length ws → Member ws (get_or ws k [])
unfolding product named
member_listed ws k h =
    record { numbers = pos (suc k) ∷ []; listed = (h, tt); reduces = ap reduced (append-nil (get_or ws k [])) }
