-- Laws of numbering in place (`specs/Numbering`): the loop's invariant and its turns. Its end: `NumberedLaws`.
--   Numbers ys c₀ R v i n <-> the naming n stands before place i of row v; c₀ are the cells at the start, R the room
--   numbers_start : before the first cell, with the base alone met
--   numbers_turn  : one cell
-- A point that is met takes the next name by an exchange; names below met, and the cells visited, stay. Assumes nothing.
use mathlib.Core.Path.{◌≡◌, refl, sym, ◌∙◌, ap, subst, subst₂}
use mathlib.Core.Logic.{◌⊎◌, inr, ⊎_elim, by_cases, ◌↔◌}
use mathlib.Core.List.{List, [], ◌∷◌, ◌++◌}
use Prim.Native.Nat.{ℕ, suc, ◌≤◌, ◌<◌}
use native.Mathlib.Decide.{ℕ_discrete, dec_lt}
use native.Mathlib.Omega.{arith}
use lib.ListN.{length, get_or}
use borrow.Author.Tests.{eq-eqb, ne_eqb, lt-ltb, le-ltb}
use Rattle.theory.specs.Words.{inv}
use Rattle.theory.specs.Letters.{StandsIn}
use Rattle.theory.specs.Tables.{absent, Cells, Leads, Accepts}
use Rattle.theory.specs.Canonical.{earlier, greatest_met}
use Rattle.theory.proofs.PlaceLaws.{ComesBefore, before_row}
use Rattle.theory.proofs.RowLaws.{earlier_start, earlier_suc, earlier_of_cell, greatest_met_most}
use Rattle.theory.proofs.OneTable.{leads_here}
use Rattle.engine.specs.Cells.{transposed, exchanged}
use Rattle.engine.specs.Numbering.{Ready, Naming, named_at, first_naming}
use Rattle.engine.proofs.BeforeLaws.{earlier_same, before_trans, greatest_absent, greatest_snoc, before_suc}
use Rattle.engine.proofs.ExchangeLaws.{
  transposed_first,
  transposed_other,
  exchanged_other,
  exchanged_accepts,
  exchanged_ready,
}

-- ── The invariant ──

pub record Numbers (ys : List ℕ) (c₀ : Cells) (R v i : ℕ) (n : Naming) : Type 0 where
  -- what numbering asks of the cells
  pub ready : Ready ys R n.cells
  -- acceptance is unchanged
  pub same : (q : List ℕ) → Accepts c₀ q ↔ Accepts n.cells q
  -- the points met are one more than the greatest met before this place
  pub count : suc (greatest_met (earlier n.cells ys v i)) ≡ n.met
  pub room : n.met ≤ R
  pub reading : v ≤ n.met
  -- each cell before this place is at most the next point to be met there
  pub next : (u j x : ℕ) → ComesBefore u j v i → j < length ys → Leads n.cells u (get_or ys j 0) x
      → x ≤ suc (greatest_met (earlier n.cells ys u j))
  -- each point met but the base is met in a row above its own
  pub early : (x : ℕ) → 1 ≤ x → x < n.met → (u : ℕ) × (y : ℕ) × (u < x) × Leads n.cells u y x

-- before the first cell, with the base alone met
pub numbers_start : (ys : List ℕ) (c : Cells) (R : ℕ) → Ready ys R c → 1 ≤ R → Numbers ys c R 0 0 (first_naming c)
unfolding greatest_met
numbers_start ys c R r some =
    record {
      ready = r;
      same = λ q. (λ a. a, λ a. a);
      count = ap (λ l. suc (greatest_met l)) (earlier_start c ys);
      room = some;
      reading = omega arith;
      next = λ u j x b. ⊎_elim (λ h. absurd (omega arith)) (λ h. absurd (omega (arith, h.1))) b;
      early = λ x h g. absurd (omega arith);
    }

-- an empty cell: nothing happens
pub named_none : (n : Naming) (v y : ℕ) → n.cells v y ≡ absent → named_at n v y ≡ n
unfolding named_at
named_none n v y e = rw (eq-eqb (n.cells v y) absent e)

-- nor where it names a met point
pub named_met : (n : Naming) (v y x : ℕ) → Leads n.cells v y x → x < n.met → named_at n v y ≡ n
unfolding named_at
named_met n v y x l h = rw (l.0, ne_eqb x absent l.1, lt-ltb x n.met h)

-- a new point: it takes the next name
pub named_new : (n : Naming) (v y x : ℕ) → Leads n.cells v y x → n.met ≤ x
    → named_at n v y ≡ record { cells = exchanged n.cells x n.met; met = suc n.met }
unfolding named_at
named_new n v y x l h = rw (l.0, ne_eqb x absent l.1, le-ltb x n.met h)

module _ {ys : List ℕ} {c₀ : Cells} {R v i : ℕ} {n : Naming} (I : Numbers ys c₀ R v i n) where
  -- what is met before this place is below met
  pub met_below : (u j x : ℕ) → ComesBefore u j v i → j < length ys → Leads n.cells u (get_or ys j 0) x → x < n.met
  met_below u j x b h l =
      let s = earlier_of_cell n.cells ys v i u j b h in
      let l₀ = earlier n.cells ys v i in
      let g = greatest_met_most (earlier n.cells ys v i) x (inr (subst (StandsIn l₀) l.0 s, l.1)) in
      omega (arith, I.count)

  -- the cell at this place names no new point: nothing happens
  kept : i < length ys → greatest_met (earlier n.cells ys v (suc i)) ≡ greatest_met (earlier n.cells ys v i)
      → ((x : ℕ) → Leads n.cells v (get_or ys i 0) x → x < n.met) → Numbers ys c₀ R v (suc i) n
  kept h g f =
      record {
        ready = I.ready;
        same = I.same;
        count = ap suc g ∙ I.count;
        room = I.room;
        reading = I.reading;
        next = λ u j x b k l. ⊎_elim (λ a. I.next u j x a k l) (λ e. here u j x e l) (before_suc u j v i b);
        early = I.early;
      }
    where
      here : (u j x : ℕ) → (u ≡ v) × (j ≡ i) → Leads n.cells u (get_or ys j 0) x
          → x ≤ suc (greatest_met (earlier n.cells ys u j))
      here u j x e l =
          let m : Leads n.cells v (get_or ys i 0) x = subst₂ (λ a b. Leads n.cells a (get_or ys b 0) x) e.0 e.1 l in
          subst₂ (λ a b. x ≤ suc (greatest_met (earlier n.cells ys a b))) (sym e.0) (sym e.1)
          (omega (arith, f x m, I.count))

  -- the cell at this place names a point k that is new: it takes the next name
  module _ (inside : v < n.met) (h : i < length ys) (k : ℕ) (named : Leads n.cells v (get_or ys i 0) k)
      (new : n.met ≤ k) where
    in_room : k < R
    in_room =
        I.ready.rows k (inv (get_or ys i 0))
        (leads_here n.cells k (inv (get_or ys i 0)) v (I.ready.turn v (get_or ys i 0) k named))

    met_point : n.met ≡ absent → ⊥
    met_point e = omega (arith, in_room, I.ready.fits)

    -- a cell of a met row that names a met point, or nothing, is unchanged
    steady : (u y : ℕ) → u < n.met → ((n.cells u y ≡ absent → ⊥) → n.cells u y < n.met)
        → exchanged n.cells k n.met u y ≡ n.cells u y
    steady u y g f =
        exchanged_other n.cells k n.met u y (λ e. omega arith) (λ e. omega arith)
        (λ e. omega (arith, f (λ d. named.1 (sym e ∙ d)), e)) (λ e. omega (arith, f (λ d. met_point (sym e ∙ d)), e))

    steady_before : (u j : ℕ) → ComesBefore u j v i → j < length ys
        → exchanged n.cells k n.met u (get_or ys j 0) ≡ n.cells u (get_or ys j 0)
    steady_before u j b g =
        steady u (get_or ys j 0) (omega (arith, before_row u j v i b))
        (λ p. met_below u j (n.cells u (get_or ys j 0)) b g (refl, p))

    -- so the cells before each place up to this one are unchanged
    steady_list : (u j : ℕ) → (ComesBefore u j v i) ⊎ ((u ≡ v) × (j ≡ i)) → j < length ys
        → earlier (exchanged n.cells k n.met) ys u j ≡ earlier n.cells ys u j
    steady_list u j s g =
        earlier_same n.cells (exchanged n.cells k n.met) ys u j (omega arith)
        (λ a b p q. steady_before a b
        (⊎_elim (λ t. before_trans a b u j v i p t) (λ t. subst₂ (ComesBefore a b) t.0 t.1 p) s) q)

    -- this cell holds the next name
    renamed : exchanged n.cells k n.met v (get_or ys i 0) ≡ n.met
    unfolding exchanged
    renamed =
        ap (λ u. transposed k n.met (n.cells u (get_or ys i 0)))
        (transposed_other k n.met v (λ e. omega arith) (λ e. omega arith))
        ∙ ap (transposed k n.met) named.0
        ∙ transposed_first k n.met

    new_count : suc (greatest_met (earlier (exchanged n.cells k n.met) ys v (suc i))) ≡ suc n.met
    new_count =
        ap (λ l. suc (greatest_met l))
        (earlier_suc (exchanged n.cells k n.met) ys v i h
        ∙ snoc (steady_list v i (inr (refl, refl)) h) renamed)
        ∙ ap suc (greatest_snoc (earlier n.cells ys v i) n.met met_point)
        ∙ omega (arith, I.count)
      where
        snoc : {k l : List ℕ} {a b : ℕ} → k ≡ l → a ≡ b → k ++ (a ∷ []) ≡ l ++ (b ∷ [])
        snoc p q = rw (p, q)

    new_next : (u j x : ℕ) → ComesBefore u j v (suc i) → j < length ys
        → Leads (exchanged n.cells k n.met) u (get_or ys j 0) x
        → x ≤ suc (greatest_met (earlier (exchanged n.cells k n.met) ys u j))
    new_next u j x b g l =
        subst (λ m. x ≤ suc (greatest_met m)) (sym (steady_list u j (before_suc u j v i b) g))
        (⊎_elim (λ a. I.next u j x a g (sym (steady_before u j a g) ∙ l.0, l.1))
        (λ e. let q : x ≡ n.met = sym l.0 ∙ ap (λ a. exchanged n.cells k n.met a (get_or ys j 0)) e.0
        ∙ ap (λ a. exchanged n.cells k n.met v (get_or ys a 0)) e.1 ∙ renamed in
        subst₂ (λ a p. x ≤ suc (greatest_met (earlier n.cells ys a p))) (sym e.0) (sym e.1) (omega (arith, I.count)))
        (before_suc u j v i b))

    new_early : (x : ℕ) → 1 ≤ x → x < suc n.met
        → (u : ℕ) × (y : ℕ) × (u < x) × Leads (exchanged n.cells k n.met) u y x
    new_early x f g =
        by_cases (ℕ_discrete x n.met)
        (λ e. (v, get_or ys i 0, omega arith, (renamed ∙ sym e, λ d. met_point (sym e ∙ d))))
        (λ e. let r = I.early x f (omega arith) in (
          r.0,
          r.1,
          r.2,
          (steady r.0 r.1 (omega (arith, r.2)) (λ p. omega (arith, r.3.0)) ∙ r.3.0, r.3.1),
        ))

    renaming : Numbers ys c₀ R v (suc i) (record { cells = exchanged n.cells k n.met; met = suc n.met })
    renaming =
        record {
          ready = exchanged_ready I.ready k n.met (omega arith) in_room (omega (arith, I.count)) (omega (arith, in_room));
          same = λ q.
              let e = exchanged_accepts n.cells k n.met named.1 met_point zk zp q in
              (λ a. e.0 ((I.same q).0 a), λ a. (I.same q).1 (e.1 a));
          count = new_count;
          room = omega (arith, in_room);
          reading = omega arith;
          next = new_next;
          early = new_early;
        }
      where
        zk : k ≡ 0 → ⊥
        zk e = omega arith

        zp : n.met ≡ 0 → ⊥
        zp e = omega arith

  -- one turn, at a cell of a met row
  pub numbers_turn : v < n.met → i < length ys → Numbers ys c₀ R v (suc i) (named_at n v (get_or ys i 0))
  numbers_turn inside h =
      by_cases (ℕ_discrete (n.cells v (get_or ys i 0)) absent)
      (λ e. subst (Numbers ys c₀ R v (suc i)) (sym (named_none n v (get_or ys i 0) e))
      (kept h
      (ap greatest_met (earlier_suc n.cells ys v i h ∙ ap (λ x. earlier n.cells ys v i ++ (x ∷ [])) e)
      ∙ greatest_absent (earlier n.cells ys v i))
      (λ x l. absurd (leads_here n.cells v (get_or ys i 0) x l e))))
      (λ p. by_cases (dec_lt (n.cells v (get_or ys i 0)) n.met)
      (λ g. subst (Numbers ys c₀ R v (suc i)) (sym (named_met n v (get_or ys i 0) (n.cells v (get_or ys i 0)) (refl, p) g))
      (kept h
      (ap greatest_met (earlier_suc n.cells ys v i h)
      ∙ greatest_snoc (earlier n.cells ys v i) (n.cells v (get_or ys i 0)) p ∙ omega (arith, I.count))
      (λ x l. omega (arith, l.0))))
      (λ g. subst (Numbers ys c₀ R v (suc i)) (sym (named_new n v (get_or ys i 0) (n.cells v (get_or ys i 0)) (refl, p) (omega arith)))
      (renaming inside h (n.cells v (get_or ys i 0)) (refl, p) (omega arith))))
