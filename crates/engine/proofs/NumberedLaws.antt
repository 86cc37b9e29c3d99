-- The end of numbering (`specs/Numbering`): rows, the whole loop, and the canonical table.
--   numbers_row     : from the end of a row to the next
--   numbers_end     : when every met point's row is done the cells are canonical; numbers_bounded : no other row has a cell
--   numbers_exact   : they accept the members that the cells at the start accepted
--   numbered_numbers: the loop ends there
-- Assumes nothing.
use mathlib.Core.Path.{◌≡◌, sym, ◌∙◌, ap, subst}
use mathlib.Core.Logic.{inl, inr, ⊎_elim, by_cases, ◌↔◌}
use mathlib.Core.Bool.{◌||◌}
use mathlib.Core.List.{List, [], ◌∷◌}
use Prim.Native.Nat.{ℕ, zero, suc, ◌+◌, ◌≤◌, ◌<◌}
use native.Mathlib.Decide.{ℕ_discrete, dec_lt}
use native.Mathlib.Omega.{arith}
use lib.Dec.{eqb, ltb}
use lib.ListN.{length, get_or}
use borrow.Author.Tests.{lt-ltb, le-ltb}
use Rattle.theory.specs.Words.{inv}
use Rattle.theory.specs.Tables.{absent, Cells, Leads, Reads, Accepts}
use Rattle.theory.specs.Canonical.{greatest_met, Canonical}
use Rattle.theory.specs.Subgroups.{AcceptsExactly}
use Rattle.theory.proofs.WordLaws.{by_test}
use Rattle.theory.proofs.TableLaws.{Bounded}
use Rattle.theory.proofs.PlaceLaws.{ComesBefore}
use Rattle.theory.proofs.RowLaws.{earlier_row}
use Rattle.theory.proofs.OneTable.{leads_here}
use Rattle.engine.specs.Numbering.{Ready, Naming, named_at, named_to, numbered_from, numbered}
use Rattle.engine.proofs.NumberLaws.{Numbers, numbers_start, met_below, numbers_turn}

-- from the end of a row to the next
pub numbers_row : {ys : List ℕ} {c₀ : Cells} {R v : ℕ} {n : Naming} → Numbers ys c₀ R v (length ys) n → v < n.met
    → Numbers ys c₀ R (suc v) 0 n
numbers_row {ys} {c₀} {R} {v} {n} I h =
    record {
      ready = I.ready;
      same = I.same;
      count = ap (λ l. suc (greatest_met l)) (earlier_row n.cells ys v) ∙ I.count;
      room = I.room;
      reading = h;
      next = λ u j x b k l. I.next u j x (before u j k b) k l;
      early = I.early;
    }
  where
    before : (u j : ℕ) → j < length ys → ComesBefore u j (suc v) 0 → ComesBefore u j v (length ys)
    before u j k b =
        ⊎_elim (λ g. by_cases (ℕ_discrete u v) (λ e. inr (e, k)) (λ e. inl (omega arith))) (λ g. absurd (omega (arith, g.1))) b

-- ── The end ──

module _ {ys : List ℕ} {c₀ : Cells} {R : ℕ} {n : Naming} (I : Numbers ys c₀ R n.met 0 n) where
  -- a letter leads from a met point to a met point
  met_step : (u y x : ℕ) → u < n.met → Leads n.cells u y x → x < n.met
  met_step u y x h l =
      let s = I.ready.lettered u y (leads_here n.cells u y x l) in
      met_below I u s.0 x (inl h) s.1 (subst (λ a. Leads n.cells u a x) (sym s.2) l)

  met_reads : (u : ℕ) (w : List ℕ) (x : ℕ) → u < n.met → Reads (Leads n.cells) u w x → x < n.met
  met_reads u [] x h r = omega (arith, r)
  met_reads u (y ∷ w) x h r = met_reads r.0 w x (met_step u y r.0 h r.1) r.2

  -- only rows of met points have cells
  pub numbers_bounded : Bounded n.cells n.met ys
  numbers_bounded v y p =
      let r = I.ready.reached v y p in (met_reads 0 r.0 v (omega (arith, I.count)) r.1, I.ready.lettered v y p)

  -- when every met point's row is done the table is canonical
  pub numbers_end : Canonical n.met ys n.cells
  numbers_end =
      record {
        within = λ v y x l. met_step v y x (numbers_bounded v y (leads_here n.cells v y x l)).0 l;
        inverse = I.ready.turn;
        next = λ v i x h l.
            I.next v i x (inl (numbers_bounded v (get_or ys i 0) (leads_here n.cells v (get_or ys i 0) x l)).0) h l;
        early = I.early;
        two = λ v h g.
            let r = I.early v h g in
            I.ready.two v (inv r.1) (λ e. omega arith)
            (leads_here n.cells v (inv r.1) r.0 (I.ready.turn r.0 r.1 v r.3));
      }

  -- and accepts what was accepted at the start
  pub numbers_accepts : (q : List ℕ) → Accepts c₀ q ↔ Accepts n.cells q
  numbers_accepts = I.same

  -- the base is met
  pub numbers_base : 0 < n.met
  numbers_base = omega (arith, I.count)

  -- and so exactly the members that were accepted
  pub numbers_exact : (ws : List (List ℕ)) → AcceptsExactly c₀ ws → AcceptsExactly n.cells ws
  numbers_exact ws a = (λ q m. (I.same q).0 (a.0 q m), λ q r. a.1 q ((I.same q).1 r))

-- ── The whole loop ──

-- a turn forgets no point
named_more : (n : Naming) (v y : ℕ) → n.met ≤ (named_at n v y).met
unfolding named_at
named_more n v y =
    by_test (eqb (n.cells v y) absent || ltb (n.cells v y) n.met) (λ e. rw e (omega arith)) (λ e. rw e (omega arith))

-- some turns of a row
pub named_to_numbers : {ys : List ℕ} {c₀ : Cells} {R v : ℕ} {n : Naming} → Numbers ys c₀ R v 0 n → v < n.met
    → (i : ℕ) → i ≤ length ys → Numbers ys c₀ R v i (named_to ys n v i) × (v < (named_to ys n v i).met)
unfolding named_to
named_to_numbers I h zero k = (I, h)
named_to_numbers {ys} {c₀} {R} {v} {n} I h (suc i) k =
    let r = named_to_numbers I h i (omega arith) in
    (numbers_turn r.0 r.1 k, omega (arith, r.1, named_more (named_to ys n v i) v (get_or ys i 0)))

-- the rows from v on, where there is room for no more
pub rows_numbers : (d : ℕ) {ys : List ℕ} {c₀ : Cells} {R v : ℕ} {n : Naming} → Numbers ys c₀ R v 0 n → R ≤ v + d
    → Numbers ys c₀ R (numbered_from ys d v n).met 0 (numbered_from ys d v n)
unfolding numbered_from
rows_numbers zero {ys} {c₀} {R} {v} {n} I h =
    let e : v ≡ n.met = omega (arith, I.room, I.reading) in subst (λ u. Numbers ys c₀ R u 0 n) e I
rows_numbers (suc d) {ys} {c₀} {R} {v} {n} I h =
    by_cases (dec_lt v n.met)
    (λ g. rw (lt-ltb v n.met g)
    (let r = named_to_numbers I g (length ys) (omega arith) in
    rows_numbers d (numbers_row r.0 r.1) (omega arith)))
    (λ g. let e : v ≡ n.met = omega (arith, I.reading) in
    rw (le-ltb v n.met (omega arith)) (subst (λ u. Numbers ys c₀ R u 0 n) e I))

-- the loop ends where every met point's row is done
pub numbered_numbers : {ys : List ℕ} {R : ℕ} {c : Cells} → Ready ys R c → 1 ≤ R
    → Numbers ys c R (numbered ys R c).met 0 (numbered ys R c)
numbered_numbers {ys} {R} {c} r h = rows_numbers R (numbers_start ys c R r h) (omega arith)
