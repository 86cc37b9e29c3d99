-- Numbering on plain values (engine, `NumberLaws`, `NumberedLaws`).
--   named_step : a step from a table is one from the naming that it holds
--   Keeps ys R b m <-> the naming m is ready, with b points met or more; scanned_then : so is a table that holds it
--   cell_none, cell_met, cell_new : the outcomes of `number_cell`; cell_asks : what its exchange asks
--   Row, row_first, row_scanned, row_low, row_turn, row_done : the turns of a row
--   Head, head_first, head_asks, head_turn, head_done : the rows in order
-- Assumes nothing.
use mathlib.Core.Path.{◌≡◌, refl, sym, ◌∙◌, ap, subst}
use mathlib.Core.Logic.{by_cases}
use mathlib.Core.List.{List}
use Prim.Native.Nat.{ℕ, zero, suc, ◌+◌, ◌*◌, ◌≤◌, ◌<◌}
use native.Mathlib.Decide.{ℕ_discrete, dec_lt}
use native.Mathlib.Numerals.{add-one}
use native.Mathlib.Omega.{arith}
use lib.ListN.{length, get_or}
use borrow.Author.Tests.{lt-ltb, le-ltb}
use Rattle.theory.specs.Words.{inv}
use Rattle.theory.specs.Letters.{usual}
use Rattle.theory.specs.Tables.{absent, cell}
use Rattle.theory.proofs.TableLaws.{length_usual}
use Rattle.theory.proofs.OneTable.{leads_here}
use Rattle.engine.specs.Cells.{exchanged}
use Rattle.engine.specs.Work.{Holds}
use Rattle.engine.specs.Numbering.{Ready, Naming, named_at, named_to, numbered_from, numbered}
use Rattle.engine.proofs.ExchangeLaws.{exchanged_ready}
use Rattle.engine.proofs.HoldLaws.{holds_first, holds_then}
use Rattle.engine.proofs.NumberLaws.{named_none, named_met, named_new}
use Rattle.numbering.specs.Numbered.{Roomed, NumberedIn}
use Rattle.numbering.specs.Steps.{naming_of, Scanned, NamedIn}
use Rattle.numbering.proofs.StepLaws.{holds_path, roomed_then, point_as, cell_point}

-- ── The naming that a table holds ──

module _ {n R : ℕ} {old mid : List ℕ} {m : Naming} {r : ℕ} (h : NamedIn n R old m r mid) where
  naming_path : naming_of n R mid r ≡ m
  naming_path = λ i. record { cells = holds_path h.table i; met = h.points i }

  -- a step from a table is one from the naming that it holds
  pub named_step : {s : ℕ} {after : List ℕ} (f : Naming → Naming) → NamedIn n R mid (f (naming_of n R mid r)) s after
      → NamedIn n R old (f m) s after
  named_step {s} {after} f k =
      let g = subst (λ a. NamedIn n R mid (f a) s after) naming_path k in
      record { points = g.points; table = holds_then h.table g.table }

-- a table holds its own
named_first : (n R : ℕ) (t : List ℕ) (met : ℕ) → NamedIn n R t (naming_of n R t met) met t
named_first n R t met = record { points = refl; table = holds_first n R t }

-- ── What turns keep ──

pub record Keeps (ys : List ℕ) (R b : ℕ) (m : Naming) : Type 0 where
  pub ready : Ready ys R m.cells
  pub low : b ≤ m.met
  pub room : m.met ≤ R

module _ {ys : List ℕ} {R b : ℕ} (base : 1 ≤ b) where
  named_keeps : {m : Naming} → Keeps ys R b m → (v y : ℕ) → Keeps ys R b (named_at m v y)
  named_keeps {m} h v y =
      by_cases (ℕ_discrete (m.cells v y) absent) (λ e. subst (Keeps ys R b) (sym (named_none m v y e)) h)
      (λ p. by_cases (dec_lt (m.cells v y) m.met)
      (λ g. subst (Keeps ys R b) (sym (named_met m v y (m.cells v y) (refl, p) g)) h)
      (λ g. subst (Keeps ys R b) (sym (named_new m v y (m.cells v y) (refl, p) (omega arith))) (new p (omega arith))))
    where
      new : (m.cells v y ≡ absent → ⊥) → m.met ≤ m.cells v y
          → Keeps ys R b (record { cells = exchanged m.cells (m.cells v y) m.met; met = suc m.met })
      new p g =
          let x = m.cells v y in
          let l : x < R = h.ready.rows x (inv y) (leads_here m.cells x (inv y) v (h.ready.turn v y x (refl, p))) in
          record {
            ready = exchanged_ready h.ready x m.met (omega (arith, h.low)) l (omega (arith, h.low)) (omega arith);
            low = omega (arith, h.low);
            room = omega arith;
          }

  row_keeps : {m : Naming} → Keeps ys R b m → (v i : ℕ) → Keeps ys R b (named_to ys m v i)
  unfolding named_to
  row_keeps h v zero = h
  row_keeps h v (suc i) = named_keeps (row_keeps h v i) v (get_or ys i 0)

module _ {n R : ℕ} {t : List ℕ} {met : ℕ} (s : Scanned n R t met) where
  scanned_keeps : Keeps (usual n) R met (naming_of n R t met)
  scanned_keeps = record { ready = s.ready; low = omega arith; room = s.room }

  -- a table that holds a ready naming is ready
  scanned_then : {m : Naming} {r : ℕ} {after : List ℕ} → Keeps (usual n) R met m → NamedIn n R t m r after → Scanned n R after r
  scanned_then k h =
      record {
        ready = subst (Ready (usual n) R) (sym (holds_path h.table)) k.ready;
        roomed = roomed_then h.table s.roomed k.ready.turn;
        base = omega (arith, s.base, k.low, h.points);
        room = omega (arith, k.room, h.points);
      }

  -- ── One cell ──

  module _ (v y : ℕ) {u : ℕ} (is : u ≡ cell n R t v y) where
    pub cell_none : u ≡ absent → NamedIn n R t (named_at (naming_of n R t met) v y) met t
    cell_none e =
        subst (λ m. NamedIn n R t m met t) (sym (named_none (naming_of n R t met) v y (sym is ∙ e))) (named_first n R t met)

    pub cell_met : (u ≡ absent → ⊥) → u < met → NamedIn n R t (named_at (naming_of n R t met) v y) met t
    cell_met p g =
        subst (λ m. NamedIn n R t m met t) (sym (named_met (naming_of n R t met) v y u (sym is, p) g)) (named_first n R t met)

    -- a new point and the next name are of the room
    pub cell_asks : (u ≡ absent → ⊥) → met ≤ u → (u < R) × (met < R)
    cell_asks p g =
        let l : u < R = point_as is (cell_point s.roomed v y) p in (l, omega arith)

    pub cell_new : {after : List ℕ} → (u ≡ absent → ⊥) → met ≤ u → Holds n R t (exchanged (cell n R t) u met) after
        → NamedIn n R t (named_at (naming_of n R t met) v y) (met + 1) after
    cell_new {after} p g h =
        subst (λ m. NamedIn n R t m (met + 1) after) (sym (named_new (naming_of n R t met) v y u (sym is, p) g))
        (record { points = add-one met; table = h })

-- ── The turns of a row ──

pub record Row (n R : ℕ) (old : List ℕ) (v met i found : ℕ) (t : List ℕ) : Type 0 where
  pub named : NamedIn n R old (named_to (usual n) (naming_of n R old met) v i) found t

pub row_first : {n R : ℕ} {old : List ℕ} {v met : ℕ} → Row n R old v met 0 met old
unfolding named_to
row_first {n} {R} {old} {v} {met} = record { named = named_first n R old met }

module _ {n R : ℕ} {old : List ℕ} {v met i found : ℕ} {t : List ℕ} (s : Scanned n R old met) (h : Row n R old v met i found t) where
  row_kept : Keeps (usual n) R met (named_to (usual n) (naming_of n R old met) v i)
  row_kept = row_keeps s.base (scanned_keeps s) v i

  pub row_scanned : Scanned n R t found
  row_scanned = scanned_then s row_kept h.named

  pub row_low : met ≤ found
  row_low = omega (arith, row_kept.low, h.named.points)

  pub row_turn : {z r : ℕ} {after : List ℕ} → z ≡ get_or (usual n) i 0
      → NamedIn n R t (named_at (naming_of n R t found) v z) r after → Row n R old v met (i + 1) r after
  unfolding named_to
  row_turn {z} {r} {after} e k =
      record {
        named =
            rw (add-one i)
            (named_step h.named (λ m. named_at m v (get_or (usual n) i 0))
            (subst (λ y. NamedIn n R t (named_at (naming_of n R t found) v y) r after) e k));
      }

  pub row_done : i ≡ 2 * n → NamedIn n R old (named_to (usual n) (naming_of n R old met) v (length (usual n))) found t
  row_done e = subst (λ j. NamedIn n R old (named_to (usual n) (naming_of n R old met) v j) found t) (e ∙ sym (length_usual n)) h.named

-- ── The rows in order ──

pub record Head (n R : ℕ) (old : List ℕ) (v met : ℕ) (t : List ℕ) : Type 0 where
  pub scanned : Scanned n R t met
  pub held : Holds n R old (cell n R t) t
  -- the rows left lead to the end
  pub left : ℕ
  pub enough : R ≤ v + left
  pub rows : numbered_from (usual n) left v (naming_of n R t met) ≡ numbered (usual n) R (cell n R old)

pub head_first : {n R : ℕ} {old : List ℕ} → Ready (usual n) R (cell n R old) → Roomed n R old → 1 ≤ R → Head n R old 0 1 old
head_first {n} {R} {old} f r l =
    record {
      scanned = record { ready = f; roomed = r; base = omega arith; room = l };
      held = holds_first n R old;
      left = R;
      enough = omega arith;
      rows = refl;
    }

module _ {n R : ℕ} {old : List ℕ} {v met : ℕ} {t : List ℕ} (h : Head n R old v met t) where
  pub head_turn : {r : ℕ} {after : List ℕ} → v < met
      → NamedIn n R t (named_to (usual n) (naming_of n R t met) v (length (usual n))) r after → Head n R old (v + 1) r after
  unfolding numbered_from
  head_turn {r} {after} g k = rw (add-one v) (go h.left h.enough h.rows)
    where
      ys : List ℕ
      ys = usual n

      m : Naming
      m = naming_of n R t met

      go : (d : ℕ) → R ≤ v + d → numbered_from ys d v m ≡ numbered ys R (cell n R old) → Head n R old (suc v) r after
      go zero l e = absurd (omega (arith, h.scanned.room))
      go (suc d) l e =
          record {
            scanned = scanned_then h.scanned (row_keeps h.scanned.base (scanned_keeps h.scanned) v (length ys)) k;
            held = record { same = k.table.same ∙ h.held.same; cells = λ u z. refl; rest = k.table.rest ∙ h.held.rest };
            left = d;
            enough = omega arith;
            rows = ap (numbered_from ys d (suc v)) (naming_path k) ∙ sym (row d) ∙ e;
          }
        where
          row : (j : ℕ) → numbered_from ys (suc j) v m ≡ numbered_from ys j (suc v) (named_to ys m v (length ys))
          row j = rw (lt-ltb v met g)

  pub head_done : met ≤ v → NumberedIn n R old met t
  unfolding numbered_from
  head_done g = done h.left h.rows
    where
      done : (d : ℕ) → numbered_from (usual n) d v (naming_of n R t met) ≡ numbered (usual n) R (cell n R old) → NumberedIn n R old met t
      done d e =
          let q = sym (stop d) ∙ e in
          record {
            points = ap (λ a. a.met) q;
            table = subst (λ a. Holds n R old a.cells t) q h.held;
          }
        where
          stop : (j : ℕ) → numbered_from (usual n) j v (naming_of n R t met) ≡ naming_of n R t met
          stop zero = refl
          stop (suc j) = rw (le-ltb v met g)
