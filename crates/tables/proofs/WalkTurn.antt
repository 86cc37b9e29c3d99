-- The canonical walk on plain values.
--   Head n N t v y seen <-> no cell before letter y of row v is faulty, and `seen` is what they hold
--   head_first, head_turn, head_row : so it is at the first cell, after a cell, and after a row
--   head_stop, head_done : what the walk says at a faulty cell, and at the end
-- `dense` is what makes the greatest point met tell all points met: no number up to it is passed over, as each cell is at
-- most one more than the greatest before it. Assumes nothing.
use mathlib.Core.Path.{◌≡◌, refl, sym, ◌∙◌, ap, subst}
use mathlib.Core.Logic.{inl, inr, ⊎_elim, by_cases}
use mathlib.Core.Bool.{Bool, true, false, cond, not, ◌&&◌, ◌||◌}
use mathlib.Core.Option.{none, some}
use mathlib.Core.List.{List, [], ◌∷◌, ◌++◌, append-nil}
use Prim.Native.Nat.{ℕ, suc, ◌+◌, ◌*◌, ◌≤◌, ◌<◌, max}
use native.Mathlib.Nat.{suc-mul}
use native.Mathlib.Decide.{ℕ_discrete, dec_lt}
use native.Mathlib.Numerals.{add-one}
use native.Mathlib.Omega.{arith}
use lib.Dec.{eqb, ltb}
use lib.ListN.{length, get_or, take}
use borrow.Author.Tests.{eq-eqb, ne_eqb, lt-ltb, le-ltb}
use Rattle.std.specs.declared.result.Result.TheVariants.{Ok, Err}
use Rattle.theory.specs.Letters.{usual, StandsIn}
use Rattle.theory.specs.Graphs.{is_lower}
use Rattle.theory.specs.TableRefusals.{at_cell, cell_refusal}
use Rattle.theory.specs.Tables.{absent, Cells, cell}
use Rattle.theory.specs.Canonical.{
  row_of,
  rows_before,
  earlier,
  greatest_met,
  is_in,
  breaks_cell,
  breaks_row,
  is_faulty,
  position_of,
  faulty_cell,
}
use Rattle.theory.specs.Basis.{Spot, scan, those, is_edge, edges_of, all, is_full}
use Rattle.theory.proofs.WordLaws.{by_test}
use Rattle.theory.proofs.TableLaws.{length_usual, get_or_usual}
use Rattle.theory.proofs.PlaceLaws.{passes_fails, fails, ComesBefore, IsFirst, first_place_is, first_place_is_none}
use Rattle.theory.proofs.RowLaws.{
  is_in_sound,
  is_in_complete,
  earlier_start,
  Met,
  greatest_met_most,
}
use Rattle.theory.proofs.PathLaws.{spot}
use Rattle.refusals.specs.declared.Cause.TheVariants.{Faulty}
use Rattle.refusals.specs.declared.Refusal.{Refusal}
use Rattle.refusals.specs.Given.{refusal_at}
use Rattle.refusals.proofs.UnlessLaws.{ok_unless, err_unless}
use Rattle.tables.specs.Walks.{walk_of, walked_as}
use Rattle.tables.specs.Lent.{IsLent}
use Rattle.tables.specs.Cells.{row_broken, broken_at, visited_as}
use Rattle.tables.specs.declared.Seen.{Seen}
use Rattle.tables.proofs.LentLaws.{place_in}
use Rattle.tables.proofs.CellTurn.{next_cell}
use Rattle.tables.proofs.ScanLaws.{
  and_none,
  those_more,
  spots_to,
  spots_more,
  spots_row,
  dense_more,
  dense_absent,
  greatest_more,
  greatest_absent,
  before_more,
  before_row,
}

-- ── Lists of spots ──

-- the cell of a spot is not absent
abbrev is_there : Cells → Spot → Bool
is_there c s = not (eqb (c s.point s.letter) absent)

all_more : (f : Spot → Bool) (l : List Spot) (s : Spot) → all f (l ++ (s ∷ [])) ≡ (all f l && f s)
unfolding all
all_more f [] s = by_test (f s) (λ e. rw e) (λ e. rw e)
all_more f (a ∷ l) s = let r = all_more f l s in by_test (f a) (λ e. rw e r) (λ e. rw e)

spots_all : (ys : List ℕ) (N : ℕ) → spots_to ys N 0 ≡ scan N ys
spots_all ys N = append-nil (scan N ys)

-- ── Tests ──

or_right : (a b : Bool) → (a || b) ≡ false → b ≡ false
or_right true b e = passes_fails refl e
or_right false b e = e

and_some : (b : Bool) → (b && true) ≡ b
and_some true = refl
and_some false = refl

at_most_one : (b : Bool) → cond b 1 0 ≤ 1
at_most_one true = omega arith
at_most_one false = omega arith

-- ── The state of the walk ──

pub record Head (n N : ℕ) (t : List ℕ) (v y : ℕ) (seen : Seen) : Type 0 where
  pub point : v ≤ N
  pub letter : y ≤ 2 * n
  pub clear : (u j : ℕ) → ComesBefore u j v y → j < length (usual n) → is_faulty N (usual n) (cell n N t) u j ≡ false
  pub met : seen.met ≡ greatest_met (earlier (cell n N t) (usual n) v y)
  pub dense : (x : ℕ) → x ≤ seen.met → Met (earlier (cell n N t) (usual n) v y) x
  pub edges : seen.edges ≡ length (those (is_edge (cell n N t)) (spots_to (usual n) v y))
  pub full : seen.full ≡ all (is_there (cell n N t)) (spots_to (usual n) v y)
  -- so the count does not wrap
  pub few : seen.edges ≤ v * (2 * n) + y

module _ (n N : ℕ) (t : List ℕ) where
  pub head_first : Head n N t 0 0 (record { met = 0; edges = 0; full = true })
  unfolding greatest_met scan those all
  head_first =
      record {
        point = omega arith;
        letter = omega arith;
        clear = λ u j b h. ⊎_elim (λ a. absurd (omega arith)) (λ a. absurd (omega arith)) b;
        met = sym (ap greatest_met (earlier_start (cell n N t) (usual n)));
        dense = λ x h. inl (omega arith);
        edges = refl;
        full = refl;
        few = omega arith;
      }

module _ {n N : ℕ} {t : List ℕ} {v y : ℕ} {seen : Seen} (L : IsLent n N t) (H : Head n N t v y seen) (hv : v < N) (hy : y < 2 * n) where
  -- v was met before its row exactly if it is at most the greatest point met
  met_test : y ≡ 0 → 0 < v → not (is_in v (rows_before (cell n N t) (usual n) v)) ≡ ltb seen.met v
  unfolding earlier
  met_test e h = by_cases (dec_lt seen.met v) unmet met
    where
      start : earlier (cell n N t) (usual n) v y ≡ rows_before (cell n N t) (usual n) v
      start = ap (λ i. rows_before (cell n N t) (usual n) v ++ take i (row_of (cell n N t) (usual n) v)) e ∙ append-nil (rows_before (cell n N t) (usual n) v)

      number : v ≡ absent → ⊥
      number q = omega (arith, hv, L.points)

      unmet : seen.met < v → not (is_in v (rows_before (cell n N t) (usual n) v)) ≡ ltb seen.met v
      unmet k =
          let f : is_in v (rows_before (cell n N t) (usual n) v) ≡ false =
          fails (is_in v (rows_before (cell n N t) (usual n) v))
          (λ q. omega (
            arith,
            H.met ∙ ap greatest_met start,
            greatest_met_most (rows_before (cell n N t) (usual n) v) v
                (inr (is_in_sound v (rows_before (cell n N t) (usual n) v) q, number)),
          )) in
          rw (f, lt-ltb seen.met v k)

      met : (seen.met < v → ⊥) → not (is_in v (rows_before (cell n N t) (usual n) v)) ≡ ltb seen.met v
      met k =
          let s : StandsIn (rows_before (cell n N t) (usual n) v) v =
          ⊎_elim (λ z. absurd (omega arith)) (λ s. s.0) (subst (λ l. Met l v) start (H.dense v (omega arith))) in
          rw (is_in_complete v (rows_before (cell n N t) (usual n) v) s, le-ltb seen.met v (omega arith))

  -- the test of the walk is that of the rules
  broken_faulty : broken_at n N t v y seen.met ≡ is_faulty N (usual n) (cell n N t) v y
  unfolding is_faulty breaks_row
  broken_faulty =
      rw (get_or_usual n y hy, sym H.met)
      (by_cases (ℕ_discrete y 0)
      (λ e. by_cases (dec_lt 0 v) (λ h. rw (met_test e h)) (λ h. rw (le-ltb 0 v (omega arith))))
      (λ e. rw (ne_eqb y 0 e)))

  pub head_stop : {b : Bool} {p : ℕ} {r : Refusal} → b ≡ broken_at n N t v y seen.met → b ≡ true → p ≡ v * (2 * n) + y
      → r ≡ refusal_at Faulty p → Err r ≡ walked_as n N t
  unfolding walked_as cell_refusal faulty_cell
  head_stop {b} {p} q e f g = ap Err (g ∙ ap (refusal_at Faulty) f) ∙ err_unless (cell_refusal n N t) (walk_of n N t) (ap at_cell found)
    where
      first : IsFirst (is_faulty N (usual n) (cell n N t)) N (length (usual n)) v y
      first =
          record {
            row_in = hv;
            index_in = omega (arith, hy, length_usual n);
            passes = sym broken_faulty ∙ sym q ∙ e;
            none_before = H.clear;
          }

      found : faulty_cell N (usual n) (cell n N t) ≡ some (v * (2 * n) + y)
      found =
          ap (position_of (usual n)) (first_place_is (is_faulty N (usual n) (cell n N t)) N (length (usual n)) v y first)
          ∙ ap some (ap (λ w. v * w + get_or (usual n) y 0) (length_usual n) ∙ ap (λ z. v * (2 * n) + z) (get_or_usual n y hy))

  -- a cell that is not faulty is passed
  clear_more : {b : Bool} → b ≡ broken_at n N t v y seen.met → b ≡ false
      → (u j : ℕ) → ComesBefore u j v (suc y) → j < length (usual n) → is_faulty N (usual n) (cell n N t) u j ≡ false
  clear_more q e u j b h =
      ⊎_elim (λ a. H.clear u j (inl a) h)
      (λ a. by_cases (ℕ_discrete j y)
      (λ z. ap (λ i. is_faulty N (usual n) (cell n N t) i j) a.0 ∙ ap (is_faulty N (usual n) (cell n N t) v) z ∙ sym broken_faulty ∙ sym q ∙ e)
      (λ z. H.clear u j (inr (a.0, omega (arith, a.1))) h)) b

  -- the cell breaks none of its rules
  cell_kept : broken_at n N t v y seen.met ≡ false → breaks_cell N (cell n N t) v y seen.met ≡ false
  cell_kept e = or_right (eqb y 0 && row_broken n N t v seen.met) (breaks_cell N (cell n N t) v y seen.met) e

  -- where it leads somewhere, that is at most the next point
  next_point : broken_at n N t v y seen.met ≡ false → (cell n N t v y ≡ absent → ⊥) → cell n N t v y ≤ suc seen.met
  next_point e m = next_cell N (cell n N t) v y seen.met (cell_kept e) m

  edges_more : seen.edges + cond (is_lower y && not (eqb (cell n N t v y) absent)) 1 0 ≡ length (those (is_edge (cell n N t)) (spots_to (usual n) v (suc y)))
  edges_more =
      omega (
        arith,
        H.edges,
        those_more (is_edge (cell n N t)) (spots_to (usual n) v y) (spot v y),
        ap (λ l. length (those (is_edge (cell n N t)) l)) (spots_more n v y hy),
      )

  full_more : (seen.full && not (eqb (cell n N t v y) absent)) ≡ all (is_there (cell n N t)) (spots_to (usual n) v (suc y))
  full_more =
      ap (λ b. b && not (eqb (cell n N t v y) absent)) H.full
      ∙ sym (all_more (is_there (cell n N t)) (spots_to (usual n) v y) (spot v y))
      ∙ sym (ap (all (is_there (cell n N t))) (spots_more n v y hy))

  absent_turn : broken_at n N t v y seen.met ≡ false → cell n N t v y ≡ absent
      → Head n N t v (suc y) (record { met = seen.met; edges = seen.edges; full = false })
  absent_turn e m =
      let q = eq-eqb (cell n N t v y) absent m in
      record {
        point = H.point;
        letter = omega (arith, hy);
        clear = clear_more refl e;
        met = H.met ∙ sym (ap greatest_met (before_more (cell n N t) n v y hy) ∙ greatest_absent (earlier (cell n N t) (usual n) v y) (cell n N t v y) m);
        dense = λ x h. subst (λ l. Met l x) (sym (before_more (cell n N t) n v y hy)) (dense_absent (earlier (cell n N t) (usual n) v y) seen.met (cell n N t v y) H.dense x h);
        edges = omega (arith, edges_more, ap {B = ℕ} (λ b. cond (is_lower y && not b) 1 0) q, ap {B = ℕ} (λ b. cond b 1 0) (and_none (is_lower y)));
        full = sym (and_none seen.full) ∙ sym (ap (λ b. seen.full && not b) q) ∙ full_more;
        few = omega (arith, H.few);
      }

  present_turn : broken_at n N t v y seen.met ≡ false → (cell n N t v y ≡ absent → ⊥)
      → Head n N t v (suc y) (record { met = max seen.met (cell n N t v y); edges = seen.edges + cond (is_lower y) 1 0; full = seen.full })
  present_turn e m =
      let q = ne_eqb (cell n N t v y) absent m in
      record {
        point = H.point;
        letter = omega (arith, hy);
        clear = clear_more refl e;
        met = ap (λ g. max g (cell n N t v y)) H.met ∙ sym (ap greatest_met (before_more (cell n N t) n v y hy) ∙ greatest_more (earlier (cell n N t) (usual n) v y) (cell n N t v y) m);
        dense = λ x h. subst (λ l. Met l x) (sym (before_more (cell n N t) n v y hy)) (dense_more (earlier (cell n N t) (usual n) v y) seen.met (cell n N t v y) H.dense m (next_point e m) x h);
        edges = omega (arith, edges_more, ap {B = ℕ} (λ b. cond (is_lower y && not b) 1 0) q, ap {B = ℕ} (λ b. cond b 1 0) (and_some (is_lower y)));
        full = sym (and_some seen.full) ∙ sym (ap (λ b. seen.full && not b) q) ∙ full_more;
        few = omega (arith, H.few, at_most_one (is_lower y));
      }

  pub head_turn : {b : Bool} {x : ℕ} {after : Seen} → b ≡ broken_at n N t v y seen.met → b ≡ false → x ≡ cell n N t v y
      → after ≡ visited_as seen x y → Head n N t v (y + 1) after
  head_turn {b} {x} {after} q e f g =
      rw (add-one y)
      (by_cases (ℕ_discrete (cell n N t v y) absent)
      (λ m. subst (Head n N t v (suc y)) (sym (g ∙ ap (λ z. visited_as seen z y) f ∙ rw (eq-eqb (cell n N t v y) absent m))) (absent_turn (sym q ∙ e) m))
      (λ m. subst (Head n N t v (suc y)) (sym (g ∙ ap (λ z. visited_as seen z y) f ∙ rw (ne_eqb (cell n N t v y) absent m))) (present_turn (sym q ∙ e) m)))

  -- the count does not wrap
  pub head_few : seen.edges < length t
  head_few = omega (arith, H.few, place_in L hv hy)

module _ {n N : ℕ} {t : List ℕ} {seen : Seen} where
  -- after the last cell of a row comes the first of the next
  pub head_row : {v y : ℕ} → Head n N t v y seen → v < N → 2 * n ≤ y → Head n N t (v + 1) 0 seen
  head_row {v} {y} H h k = rw (add-one v) (go (omega (arith, H.letter)))
    where
      go : y ≡ 2 * n → Head n N t (suc v) 0 seen
      go e =
          let K = subst (λ z. Head n N t v z seen) e H in
          record {
            point = omega arith;
            letter = omega arith;
            clear = λ u j b l. ⊎_elim (λ a. by_cases (ℕ_discrete u v) (λ z. K.clear u j (inr (z, omega (arith, length_usual n))) l) (λ z. K.clear u j (inl (omega arith)) l)) (λ a. absurd (omega (arith, a.1))) b;
            met = K.met ∙ sym (ap greatest_met (before_row (cell n N t) n v));
            dense = λ x l. subst (λ m. Met m x) (sym (before_row (cell n N t) n v)) (K.dense x l);
            edges = K.edges ∙ sym (ap (λ l. length (those (is_edge (cell n N t)) l)) (spots_row n v));
            full = K.full ∙ sym (ap (all (is_there (cell n N t))) (spots_row n v));
            few = omega (arith, K.few, suc-mul v (2 * n));
          }

  -- after the last row the table is sound
  pub head_done : {v y : ℕ} → Head n N t v y seen → y ≡ 0 → v ≡ N → Ok (record { edges = seen.edges; full = seen.full }) ≡ walked_as n N t
  unfolding walked_as cell_refusal faulty_cell edges_of is_full
  head_done {v} {y} H z e = go (subst (λ u. Head n N t u 0 seen) e (subst (λ i. Head n N t v i seen) z H))
    where
      go : Head n N t N 0 seen → Ok (record { edges = seen.edges; full = seen.full }) ≡ walked_as n N t
      go K = (λ i. Ok (record { edges = edges i; full = full i })) ∙ ok_unless (cell_refusal n N t) (walk_of n N t) (ap at_cell sound)
        where
          sound : faulty_cell N (usual n) (cell n N t) ≡ none
          sound = ap (position_of (usual n)) (first_place_is_none (is_faulty N (usual n) (cell n N t)) N (length (usual n)) (λ u j a b. K.clear u j (inl a) b))

          edges : seen.edges ≡ length (edges_of (cell n N t) N (usual n))
          edges = K.edges ∙ ap (λ l. length (those (is_edge (cell n N t)) l)) (spots_all (usual n) N)

          full : seen.full ≡ is_full (cell n N t) N (usual n)
          full = K.full ∙ ap (all (is_there (cell n N t))) (spots_all (usual n) N)
