-- The pass of `note_paths` on plain values.
--   Head n N t v y g work <-> the cells before letter y of row v are passed: g is the greatest point met, and the points up to it are noted
--   head_first, head_turn, head_row, head_done : so it is at the first cell, after a cell, after a row; and what holds at the end
--   Kept N old work <-> the cells from 3N on, and the length, are as they were
-- What is met stands in `MetLaws`. Assumes nothing.
use mathlib.Core.Path.{◌≡◌, refl, sym, ◌∙◌, ap, subst}
use mathlib.Core.Logic.{by_cases}
use mathlib.Core.Bool.{true, false}
use mathlib.Core.Option.{some}
use mathlib.Core.List.{List, [], ◌∷◌}
use Prim.Native.Nat.{ℕ, suc, ◌+◌, ◌*◌, ◌≤◌, ◌<◌}
use native.Mathlib.Decide.{ℕ_discrete}
use native.Mathlib.Numerals.{add-one}
use native.Mathlib.Omega.{arith}
use lib.ListN.{length, get_or, drop, length-append}
use Rattle.theory.specs.Letters.{usual}
use Rattle.theory.specs.Tables.{absent, Cells, cell}
use Rattle.theory.specs.Basis.{first_met, path_of}
use Rattle.theory.proofs.WordLaws.{by_test}
use Rattle.theory.proofs.PathLaws.{spot, Step, path_base, path_step, path_length}
use Rattle.tables.proofs.LentLaws.{IsSound, sound_setting}
use Rattle.paths.specs.Paths.{PathsOutcome}
use Rattle.paths.specs.Notes.{noted, is_new, met_after, noted_after}
use Rattle.paths.proofs.MetLaws.{Met, met_first, row_met, met_old, first_here, next_here, met_new, met_row}
use Rattle.paths.proofs.NoteLaws.{length_noted, noted_point, noted_letter, noted_depth, noted_else, noted_rest, new_beyond}

-- what is noted of one point
pub record NotedAt (n N : ℕ) (t work : List ℕ) (x : ℕ) : Type 0 where
  pub first : (x ≡ 0 → ⊥) → first_met (cell n N t) N (usual n) x ≡ some (record { point = get_or work x 0; letter = get_or work (N + x) 0 })
  pub long : get_or work (2 * N + x) 0 ≡ length (path_of (cell n N t) N (usual n) x)

-- the length, and the cells behind the three sections, are as they were
pub record Kept (N : ℕ) (old work : List ℕ) : Type 0 where
  pub size : length work ≡ length old
  pub rest : drop (3 * N) work ≡ drop (3 * N) old

pub kept_same : {N : ℕ} {work : List ℕ} → Kept N work work
kept_same = record { size = refl; rest = refl }

pub kept_then : {N : ℕ} {a b d : List ℕ} → Kept N a b → Kept N b d → Kept N a d
kept_then h k = record { size = k.size ∙ h.size; rest = k.rest ∙ h.rest }

pub record Head (n N : ℕ) (t : List ℕ) (v y g : ℕ) (work : List ℕ) : Type 0 where
  pub passed : Met n N t v y g
  pub base : (get_or work 0 0 ≡ 0) × (get_or work N 0 ≡ 0)
  pub points : (x : ℕ) → x ≤ g → NotedAt n N t work x
  pub room_for : 3 * N ≤ length work

module _ {n N : ℕ} {t : List ℕ} (R : IsSound n N t) where
  abbrev c : Cells
  c = cell n N t

  pub head_first : (old : List ℕ) {work : List ℕ} → 3 * N ≤ length old → work ≡ noted N old 0 0 0 0 → Head n N t 0 0 0 work
  head_first old {work} r e =
      let b : 0 < N = omega (arith, R.lent.based) in
      subst (Head n N t 0 0 0) (sym e)
      (record {
        passed = met_first R;
        base = (noted_point N old 0 0 0 0 b r, subst (λ i. get_or (noted N old 0 0 0 0) i 0 ≡ 0) (omega arith) (noted_letter N old 0 0 0 0 b r));
        points = λ x h. subst (NotedAt n N t (noted N old 0 0 0 0)) (omega arith) (record {
          first = λ z. absurd (z refl);
          long = noted_depth N old 0 0 0 0 b r ∙ sym (ap length (path_base (sound_setting R)));
        });
        room_for = omega (arith, length_noted N old 0 0 0 0);
      })

  module _ {v y g : ℕ} {work : List ℕ} (H : Head n N t v y g work) where
    -- the row's own point has its depth, which is below the number of points
    pub head_shallow : v < N → get_or work (2 * N + v) 0 < N
    head_shallow hv = omega (arith, (H.points v (row_met R H.passed v (omega arith) hv)).long, path_length (sound_setting R) v hv)

    module _ (hv : v < N) (hy : y < 2 * n) where
      -- a cell that leads to no new point changes nothing
      turn_old : is_new g (c v y) ≡ false → Head n N t v (suc y) g work
      turn_old e =
          record {
            passed = met_old R H.passed hv hy e;
            base = H.base;
            points = H.points;
            room_for = H.room_for;
          }

      -- it is the next one, and it is noted
      turn_new : is_new g (c v y) ≡ true → Head n N t v (suc y) (c v y) (noted N work (c v y) v y (get_or work (2 * N + v) 0 + 1))
      turn_new e =
          record {
            passed = met_new R H.passed hv hy e;
            base = (
              noted_else N work (c v y) v y d hx r 0 (λ q. omega (arith, b.1, hx)) (λ q. omega (arith, b.1, hx)) (λ q. omega (arith, b.1, hx)) ∙ H.base.0,
              noted_else N work (c v y) v y d hx r N (λ q. omega (arith, b.1, hx)) (λ q. omega (arith, b.1, hx)) (λ q. omega (arith, b.1, hx)) ∙ H.base.1,
            );
            points = λ x h. by_cases (ℕ_discrete x (c v y)) (λ z. subst (NotedAt n N t after) (sym z) new) (λ z. kept x (omega (arith, next)));
            room_for = omega (arith, H.room_for, length_noted N work (c v y) v y d);
          }
        where
          b : (c v y ≡ absent → ⊥) × (g < c v y)
          b = new_beyond g (c v y) e

          hx : c v y < N
          hx = R.canonical.within v y (c v y) (refl, b.0)

          r : 3 * N ≤ length work
          r = H.room_for

          d : ℕ
          d = get_or work (2 * N + v) 0 + 1

          after : List ℕ
          after = noted N work (c v y) v y d

          next : c v y ≤ suc g
          next = next_here R H.passed hv hy e

          new : NotedAt n N t after (c v y)
          new =
              let step : Step c N (usual n) (spot v y) (c v y) = (λ z. omega (arith, b.1), first_here R H.passed hv hy e) in
              record {
                first = λ z. first_here R H.passed hv hy e ∙ ap some (λ i. spot (sym (noted_point N work (c v y) v y d hx r) i) (sym (noted_letter N work (c v y) v y d hx r) i));
                long = noted_depth N work (c v y) v y d hx r
                    ∙ ap (λ k. k + 1) (H.points v (row_met R H.passed v (omega arith) hv)).long
                    ∙ sym (ap length (path_step (sound_setting R) (spot v y) (c v y) step hx) ∙ length-append (path_of c N (usual n) v) (y ∷ []));
              }

          kept : (x : ℕ) → x ≤ g → NotedAt n N t after x
          kept x h =
              let o = noted_else N work (c v y) v y d hx r in
              let k = H.points x h in
              record {
                first = λ z. k.first z ∙ ap some (λ i. spot (sym (o x (λ q. omega (arith, b.1, hx)) (λ q. omega (arith, b.1, hx)) (λ q. omega (arith, b.1, hx))) i) (sym (o (N + x) (λ q. omega (arith, b.1, hx)) (λ q. omega (arith, b.1, hx)) (λ q. omega (arith, b.1, hx))) i));
                long = o (2 * N + x) (λ q. omega (arith, b.1, hx)) (λ q. omega (arith, b.1, hx)) (λ q. omega (arith, b.1, hx)) ∙ k.long;
              }

      pub head_turn : {m : ℕ} {after : List ℕ} → m ≡ met_after c v y g → after ≡ noted_after c N work v y g → Head n N t v (y + 1) m after
      head_turn {m} {after} p q =
          rw (add-one y)
          (by_test (is_new g (c v y)) (λ e. at (p ∙ rw e) (q ∙ rw e) (turn_new e)) (λ e. at (p ∙ rw e) (q ∙ rw e) (turn_old e)))
        where
          at : {k : ℕ} {l : List ℕ} → m ≡ k → after ≡ l → Head n N t v (suc y) k l → Head n N t v (suc y) m after
          at p q h = subst (λ k. Head n N t v (suc y) k after) (sym p) (subst (Head n N t v (suc y) _) (sym q) h)

    -- passing a cell keeps what stands behind the three sections
    pub kept_turn : {old after : List ℕ} → Kept N old work → after ≡ noted_after c N work v y g → Kept N old after
    kept_turn {old} {after} k q =
        by_test (is_new g (c v y))
        (λ e. let hx = R.canonical.within v y (c v y) (refl, (new_beyond g (c v y) e).0) in
        let d = get_or work (2 * N + v) 0 + 1 in
        let p : after ≡ noted N work (c v y) v y d = q ∙ rw e in
        record {
          size = ap length p ∙ length_noted N work (c v y) v y d ∙ k.size;
          rest = ap (drop (3 * N)) p ∙ noted_rest N work (c v y) v y d hx H.room_for ∙ k.rest;
        }) (λ e. subst (Kept N old) (sym (q ∙ rw e)) k)

  -- after the last cell of a row comes the first of the next
  pub head_row : {v y g : ℕ} {work : List ℕ} → Head n N t v y g work → v < N → 2 * n ≤ y → Head n N t (v + 1) 0 g work
  head_row {v} {y} {g} {work} H h k =
      rw (add-one v)
      (record {
        passed = met_row R H.passed h k;
        base = H.base;
        points = H.points;
        room_for = H.room_for;
      })

  -- noting the base keeps what stands behind the three sections
  pub kept_first : (old : List ℕ) {work : List ℕ} → 3 * N ≤ length old → work ≡ noted N old 0 0 0 0 → Kept N old work
  kept_first old r e =
      record {
        size = ap length e ∙ length_noted N old 0 0 0 0;
        rest = ap (drop (3 * N)) e ∙ noted_rest N old 0 0 0 0 (omega (arith, R.lent.based)) r;
      }

  pub head_done : {v g : ℕ} {old work : List ℕ} → Kept N old work → Head n N t v 0 g work → N ≤ v → PathsOutcome n N t old work
  head_done {v} {g} {old} {work} k H h =
      record {
        paths = record {
          base = H.base;
          met = λ x z hx. (H.points x (row_met R H.passed x (omega arith) hx)).first z;
          depth = λ x hx. (H.points x (row_met R H.passed x (omega arith) hx)).long;
        };
        size = k.size;
        rest = k.rest;
      }
