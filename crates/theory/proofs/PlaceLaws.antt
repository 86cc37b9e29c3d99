-- Tests and what they tell, and laws of the first place that passes one (`specs/Canonical`), for any test.
--   Tells b P           <-> the test b passes exactly if P
--   IsLeast f k i       <-> i is the least number below k that passes f
--   ComesBefore u j v i <-> place j of row u comes before place i of row v, rows in order
--   IsFirst f N w v i   <-> place i of row v is the first of N rows of w cells that passes f
-- What is computed is the least, or the first, and there is one. Assumes nothing.
use mathlib.Core.Path.{◌≡◌, refl, sym, ◌∙◌, ap, subst}
use mathlib.Core.Logic.{◌⊎◌, inl, inr, ⊎_elim, by_cases}
use mathlib.Core.Bool.{Bool, true, false, not, ◌&&◌, ◌||◌, true≢false}
use mathlib.Core.Option.{Option, none, some}
use Prim.Native.Nat.{ℕ, zero, suc, ◌+◌, ◌*◌, ◌≤◌, ◌<◌}
use native.Mathlib.Decide.{ℕ_discrete, dec_lt}
use native.Mathlib.Omega.{arith}
use lib.Dec.{eqb, ltb, leb}
use borrow.Author.Tests.{eq-eqb, eqb-true, lt-ltb, ltb-true, le-leb, leb-true, not-true}
use Rattle.theory.specs.Canonical.{or_this, least, Place, is_some, in_row, first_place}
use Rattle.theory.proofs.WordLaws.{by_test}
use Rattle.theory.proofs.RefusalLaws.{and_true}
use Rattle.theory.proofs.TableLaws.{row_below}

-- a test does not both pass and fail
pub passes_fails : {C : Type 0} {b : Bool} → b ≡ true → b ≡ false → C
passes_fails p q = absurd (true≢false (sym p ∙ q))

-- a test that cannot pass fails
pub fails : (b : Bool) → (b ≡ true → ⊥) → b ≡ false
fails true n = absurd (n refl)
fails false n = refl

-- ── Tests and what they tell ──

pub record Tells (b : Bool) (P : Type 0) : Type 0 where
  pub sound : b ≡ true → P
  pub complete : P → b ≡ true

-- a test tells that it passes
pub tells_itself : (b : Bool) → Tells b (b ≡ true)
tells_itself b = record { sound = λ e. e; complete = λ e. e }

-- a test tells what means the same
pub tells_same : {b : Bool} {P Q : Type 0} → Tells b P → (P → Q) → (Q → P) → Tells b Q
tells_same t f g = record { sound = λ e. f (t.sound e); complete = λ q. t.complete (g q) }

-- the opposite test tells the opposite
pub tells_not : {b : Bool} {P : Type 0} → Tells b P → Tells (not b) (P → ⊥)
tells_not {b} t =
    record {
      sound = λ e p. passes_fails (t.complete p) (not-true b e);
      complete = λ n. rw (fails b (λ e. n (t.sound e)));
    }

-- both of two tests tell both
pub tells_and : {a b : Bool} {P Q : Type 0} → Tells a P → Tells b Q → Tells (a && b) (P × Q)
tells_and {a} {b} s t =
    record {
      sound = λ e. let h = and_true a b e in (s.sound h.0, t.sound h.1);
      complete = λ p. rw (s.complete p.0) (t.complete p.1);
    }

-- one of two tests tells one
pub tells_or : {a b : Bool} {P Q : Type 0} → Tells a P → Tells b Q → Tells (a || b) (P ⊎ Q)
tells_or {a} {b} s t =
    record {
      sound = λ e. by_test a (λ h. inl (s.sound h)) (λ h. inr (t.sound (rw h at e)));
      complete = λ p. by_test a (λ h. rw h) (λ h. rw h (⊎_elim (λ q. passes_fails (s.complete q) h) t.complete p));
    }

-- the tests of numbers tell `≡`, `<` and `≤`
pub tells_eqb : (a b : ℕ) → Tells (eqb a b) (a ≡ b)
tells_eqb a b = record { sound = eqb-true a b; complete = eq-eqb a b }

pub tells_ltb : (a b : ℕ) → Tells (ltb a b) (a < b)
tells_ltb a b = record { sound = ltb-true a b; complete = lt-ltb a b }

pub tells_leb : (a b : ℕ) → Tells (leb a b) (a ≤ b)
tells_leb a b = record { sound = leb-true a b; complete = le-leb a b }

-- ── The least number ──

abbrev pub IsLeast : (ℕ → Bool) → ℕ → ℕ → Type 0
IsLeast f k i = (i < k) × (f i ≡ true) × ((j : ℕ) → j < i → f j ≡ false)

-- what is to be shown of a computed number
abbrev Found : (ℕ → Bool) → ℕ → Option ℕ → Type 0
Found f k none = (j : ℕ) → j < k → f j ≡ false
Found f k (some i) = IsLeast f k i

found : (f : ℕ → Bool) (k : ℕ) → Found f k (least f k)
unfolding least
found f zero = λ j h. absurd (omega arith)
found f (suc k) = go (least f k) (found f k)
  where
    more : ((j : ℕ) → j < k → f j ≡ false) → f k ≡ false → (j : ℕ) → j < suc k → f j ≡ false
    more s e j h = by_cases (ℕ_discrete j k) (λ q. ap f q ∙ e) (λ q. s j (omega arith))

    go : (o : Option ℕ) → Found f k o → Found f (suc k) (or_this k o (f k))
    go (some i) s = (omega arith, s.1, s.2)
    go none s = by_test (f k) (λ e. rw e (omega arith, e, s)) (λ e. rw e (more s e))

-- what is computed is the least
pub least_some : (f : ℕ → Bool) (k i : ℕ) → least f k ≡ some i → IsLeast f k i
least_some f k i e = subst (Found f k) e (found f k)

-- where nothing is computed no number passes
pub least_none : (f : ℕ → Bool) (k : ℕ) → least f k ≡ none → (j : ℕ) → j < k → f j ≡ false
least_none f k e = subst (Found f k) e (found f k)

-- the least is what is computed
pub least_is : (f : ℕ → Bool) (k i : ℕ) → IsLeast f k i → least f k ≡ some i
least_is f k i h = go (least f k) refl
  where
    same : (j : ℕ) → IsLeast f k j → j ≡ i
    same j g =
        by_cases (dec_lt i j) (λ b. passes_fails h.1 (g.2 i b))
        (λ n. by_cases (dec_lt j i) (λ b. passes_fails g.1 (h.2 j b)) (λ m. omega arith))

    go : (o : Option ℕ) → least f k ≡ o → least f k ≡ some i
    go none e = passes_fails h.1 (least_none f k e i h.0)
    go (some j) e = e ∙ ap some (same j (least_some f k j e))

-- where no number passes nothing is computed
pub least_is_none : (f : ℕ → Bool) (k : ℕ) → ((j : ℕ) → j < k → f j ≡ false) → least f k ≡ none
least_is_none f k h = go (least f k) refl
  where
    go : (o : Option ℕ) → least f k ≡ o → least f k ≡ none
    go none e = e
    go (some j) e = let g = least_some f k j e in passes_fails g.1 (h j g.0)

-- ── The first place ──

abbrev pub ComesBefore : ℕ → ℕ → ℕ → ℕ → Type 0
ComesBefore u j v i = (u < v) ⊎ ((u ≡ v) × (j < i))

-- of two places one comes before the other, or they are one
pub before_cases : (u j v i : ℕ) → ComesBefore u j v i ⊎ (ComesBefore v i u j ⊎ ((u ≡ v) × (j ≡ i)))
before_cases u j v i =
    by_cases (dec_lt u v) (λ h. inl (inl h))
    (λ a. by_cases (dec_lt v u) (λ h. inr (inl (inl h))) (λ b. beside (omega arith)))
  where
    beside : u ≡ v → ComesBefore u j v i ⊎ (ComesBefore v i u j ⊎ ((u ≡ v) × (j ≡ i)))
    beside e =
        by_cases (dec_lt j i) (λ h. inl (inr (e, h)))
        (λ a. by_cases (dec_lt i j) (λ h. inr (inl (inr (sym e, h)))) (λ b. inr (inr (e, omega arith))))

-- a place that comes before stands in no later row
pub before_row : (u j v i : ℕ) → ComesBefore u j v i → u ≤ v
before_row u j v i b = ⊎_elim (λ h. omega arith) (λ h. omega arith) b

-- in rows of w cells, to come before is to stand at a lower position
pub position_of_before : (w u j v i : ℕ) → j < w → ComesBefore u j v i → u * w + j < v * w + i
position_of_before w u j v i h b =
    ⊎_elim (λ a. omega (arith, row_below v w u a)) (λ a. omega (arith, ap (λ z. z * w) a.0)) b

-- and the other way round
pub before_of_position : (w u j v i : ℕ) → i < w → u * w + j < v * w + i → ComesBefore u j v i
before_of_position w u j v i h b =
    by_cases (dec_lt u v) inl
    (λ n. by_cases (dec_lt v u) (λ a. absurd (omega (arith, row_below u w v a)))
    (λ m. let e : u ≡ v = omega arith in inr (e, omega (arith, ap (λ z. z * w) e))))

pub record IsFirst (f : ℕ → ℕ → Bool) (N w v i : ℕ) : Type 0 where
  pub row_in : v < N
  pub index_in : i < w
  pub passes : f v i ≡ true
  pub none_before : (u j : ℕ) → ComesBefore u j v i → j < w → f u j ≡ false

abbrev FoundPlace : (ℕ → ℕ → Bool) → ℕ → ℕ → Option Place → Type 0
FoundPlace f N w none = (u j : ℕ) → u < N → j < w → f u j ≡ false
FoundPlace f N w (some p) = IsFirst f N w p.row p.index

module _ (f : ℕ → ℕ → Bool) (N w : ℕ) where
  -- a row without a place that passes
  clear_row : (u : ℕ) → is_some (least (f u) w) ≡ false → (j : ℕ) → j < w → f u j ≡ false
  clear_row u e = go (least (f u) w) refl e
    where
      go : (o : Option ℕ) → least (f u) w ≡ o → is_some o ≡ false → (j : ℕ) → j < w → f u j ≡ false
      go none q e = least_none (f u) w q
      go (some i) q e = passes_fails refl e

  found_place_lem : FoundPlace f N w (first_place f N w)
  unfolding first_place
  found_place_lem = go (least rows N) (found rows N)
    where
      rows : ℕ → Bool
      rows v = is_some (least (f v) w)

      first : (v i : ℕ) → IsLeast rows N v → IsLeast (f v) w i → IsFirst f N w v i
      first v i s r =
          record {
            row_in = s.0;
            index_in = r.0;
            passes = r.1;
            none_before = λ u j b h.
                ⊎_elim (λ a. clear_row u (s.2 u a) j h) (λ a. ap (λ z. f z j) a.0 ∙ r.2 j a.1) b;
          }

      row : (v : ℕ) → IsLeast rows N v → (o : Option ℕ) → least (f v) w ≡ o
          → FoundPlace f N w (in_row (λ u. least (f u) w) (some v))
      row v s none e = passes_fails s.1 (ap is_some e)
      row v s (some i) e = rw e (first v i s (least_some (f v) w i e))

      go : (o : Option ℕ) → Found rows N o → FoundPlace f N w (in_row (λ v. least (f v) w) o)
      go none s = λ u j hu hj. clear_row u (s u hu) j hj
      go (some v) s = row v s (least (f v) w) refl

  -- what is computed is the first place
  pub first_place_some : (p : Place) → first_place f N w ≡ some p → IsFirst f N w p.row p.index
  first_place_some p e = subst (FoundPlace f N w) e found_place_lem

  -- where nothing is computed no place passes
  pub first_place_none : first_place f N w ≡ none → (u j : ℕ) → u < N → j < w → f u j ≡ false
  first_place_none e = subst (FoundPlace f N w) e found_place_lem

  -- the first place is what is computed
  pub first_place_is : (v i : ℕ) → IsFirst f N w v i → first_place f N w ≡ some (record { row = v; index = i })
  first_place_is v i h = go (first_place f N w) refl
    where
      same : (u j : ℕ) → IsFirst f N w u j → (u ≡ v) × (j ≡ i)
      same u j g =
          ⊎_elim (λ b. passes_fails g.passes (h.none_before u j b g.index_in))
          (⊎_elim (λ b. passes_fails h.passes (g.none_before v i b h.index_in)) (λ e. e)) (before_cases u j v i)

      go : (o : Option Place) → first_place f N w ≡ o → first_place f N w ≡ some (record { row = v; index = i })
      go none e = passes_fails h.passes (first_place_none e v i h.row_in h.index_in)
      go (some p) e =
          let s = same p.row p.index (first_place_some p e) in
          e ∙ ap some (λ k. record { row = s.0 k; index = s.1 k })

  -- where no place passes nothing is computed
  pub first_place_is_none : ((u j : ℕ) → u < N → j < w → f u j ≡ false) → first_place f N w ≡ none
  first_place_is_none h = go (first_place f N w) refl
    where
      go : (o : Option Place) → first_place f N w ≡ o → first_place f N w ≡ none
      go none e = e
      go (some p) e =
          let g = first_place_some p e in passes_fails g.passes (h p.row p.index g.row_in g.index_in)
