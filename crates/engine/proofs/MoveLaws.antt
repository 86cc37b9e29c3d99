-- Moving the edges of a point in hand to its root (`specs/Engine`, `specs/Stages`).
--   moved_kept  : a move is a step, compared with the state before its unlink
--   moved_clears, moved_absent : it empties its cell of row v, and writes into no other
--   cleared_kept, cleared_row  : a move for each letter
-- u may be absorbed meanwhile: it is then pending, and still live. Assumes nothing.
use mathlib.Core.Path.{◌≡◌, refl, sym, ◌∙◌, ap, subst, subst₃}
use mathlib.Core.Logic.{◌⊎◌, inl, inr, ⊎_elim, by_cases}
use mathlib.Core.List.{List, [], ◌∷◌}
use Prim.Native.Nat.{ℕ, ◌<◌}
use native.Mathlib.Decide.{ℕ_discrete}
use native.Mathlib.Omega.{arith}
use borrow.Author.Tests.{eq-eqb, ne_eqb}
use Rattle.theory.specs.Words.{inv}
use Rattle.theory.specs.Tables.{absent, Leads}
use Rattle.theory.proofs.ReadLaws.{Subgroup}
use Rattle.theory.proofs.LabelLaws.{alike_step}
use Rattle.theory.proofs.MemLaws.{◌∈◌, mem-cons, mem-none}
use Rattle.engine.specs.Cells.{unlinked}
use Rattle.engine.specs.Engine.{State, with_cells, joined, far_end, moved, cleared}
use Rattle.engine.specs.Points.{Over}
use Rattle.engine.specs.Stages.{Live, Stage, weight, Joinable, Handles}
use Rattle.engine.proofs.CellLaws.{
  unlinked_there,
  unlinked_leads,
  unlinked_absent,
  unlinked_cases,
  unlinked_turn,
}
use Rattle.engine.proofs.GrowLaws.{cell_over, over_names, over_turn, grows_by, joined_grows, joined_over, joined_rows}
use Rattle.engine.proofs.StageLaws.{Kept, kept_refl, kept_trans, alike_names, made_point, joined_kept}

-- the far end of a moved edge
far_own : (v u q : ℕ) → q ≡ v → far_end v u q ≡ u
far_own v u q e = rw (eq-eqb q v e)

far_other : (v u q : ℕ) → (q ≡ v → ⊥) → far_end v u q ≡ q
far_other v u q n = rw (ne_eqb q v n)

-- it is not v
far_apart : (v u q : ℕ) → (u ≡ v → ⊥) → v ≡ far_end v u q → ⊥
far_apart v u q n e =
    by_cases (ℕ_discrete q v) (λ d. n (sym (e ∙ far_own v u q d))) (λ d. d (sym (e ∙ far_other v u q d)))

-- an empty cell: nothing happens
pub moved_none : (s : State) (v u y : ℕ) → s.cells v y ≡ absent → moved s v u y ≡ s
unfolding moved
moved_none s v u y e = rw (eq-eqb (s.cells v y) absent e)

-- an edge to q: it is unlinked and joined to u
pub moved_edge_lem : (s : State) (v u y q : ℕ) → Leads s.cells v y q
    → moved s v u y ≡ joined (with_cells s (unlinked s.cells v y)) u y (far_end v u q)
unfolding moved
moved_edge_lem s v u y q l = rw (l.0, ne_eqb q absent l.1)

-- a moved state is the state itself, or has its edge unlinked and joined to u
pub moved_cases : (P : State → Type 0) (s : State) (v u y : ℕ) → (s.cells v y ≡ absent → P s)
    → ((s.cells v y ≡ absent → ⊥) → P (joined (with_cells s (unlinked s.cells v y)) u y (far_end v u (s.cells v y))))
    → P (moved s v u y)
moved_cases P s v u y f g =
    by_cases (ℕ_discrete (s.cells v y) absent) (λ e. subst P (sym (moved_none s v u y e)) (f e))
    (λ n. subst P (sym (moved_edge_lem s v u y (s.cells v y) (refl, n))) (g n))

-- the cell is empty
pub moved_clears : (s : State) (v u y : ℕ) → (u ≡ v → ⊥) → (moved s v u y).cells v y ≡ absent
moved_clears s v u y n =
    moved_cases (λ t. t.cells v y ≡ absent) s v u y (λ e. e)
    (λ p. joined_rows (with_cells s (unlinked s.cells v y)) u y (far_end v u (s.cells v y)) v y (λ e. n (sym e))
    (far_apart v u (s.cells v y) n)
    ∙ unlinked_there s.cells v y)

-- an empty cell of the row stays empty
pub moved_absent : (s : State) (v u y z : ℕ) → (u ≡ v → ⊥) → s.cells v z ≡ absent → (moved s v u y).cells v z ≡ absent
moved_absent s v u y z n q =
    moved_cases (λ t. t.cells v z ≡ absent) s v u y (λ e. q)
    (λ p. joined_rows (with_cells s (unlinked s.cells v y)) u y (far_end v u (s.cells v y)) v z (λ e. n (sym e))
    (far_apart v u (s.cells v y) n)
    ∙ unlinked_absent s.cells v y v z q)

module _ {H : List ℕ → Type 0} (S : Subgroup H) {label : ℕ → List ℕ} {ys : List ℕ} where
  -- an unlink keeps the stage
  unlinked_stage : {hand : List ℕ} {s : State} → Stage H label ys hand s → (v y : ℕ) → (s.cells v y ≡ absent → ⊥)
      → Stage H label ys hand (with_cells s (unlinked s.cells v y))
  unlinked_stage {hand} {s} g v y n =
      record {
        turn = unlinked_turn s.cells v y n g.turn;
        within = λ p z x l. g.within p z x (unlinked_leads s.cells v y p z x l).0;
        lettered = λ p z x l. g.lettered p z x (unlinked_leads s.cells v y p z x l).0;
        some = g.some;
        fits = g.fits;
        low = g.low;
        idem = g.idem;
        unmade = g.unmade;
        live = λ p z x l. g.live p z x (unlinked_leads s.cells v y p z x l).0;
        waiting = g.waiting;
        base = g.base;
        labelled = λ p z x l. g.labelled p z x (unlinked_leads s.cells v y p z x l).0;
        alike = g.alike;
      }

  module _ {s : State} {v u : ℕ} (h : Handles H label ys s v u) (y : ℕ) (n : s.cells v y ≡ absent → ⊥) where
    edge : Leads s.cells v y (s.cells v y)
    edge = (refl, n)

    back : Leads s.cells (s.cells v y) (inv y) v
    back = h.stage.turn v y (s.cells v y) edge

    -- the far end is a name of the same point
    far_one : s.root (s.cells v y) ≡ s.root (far_end v u (s.cells v y))
    far_one =
        by_cases (ℕ_discrete (s.cells v y) v)
        (λ e. ap s.root e ∙ sym h.one ∙ sym (ap s.root (far_own v u (s.cells v y) e)))
        (λ e. sym (ap s.root (far_other v u (s.cells v y) e)))

    far_is : (P : ℕ → Type 0) → P u → P (s.cells v y) → P (far_end v u (s.cells v y))
    far_is P a b =
        by_cases (ℕ_discrete (s.cells v y) v) (λ e. subst P (sym (far_own v u (s.cells v y) e)) a)
        (λ e. subst P (sym (far_other v u (s.cells v y) e)) b)

    movable : Joinable H label ys (v ∷ []) (with_cells s (unlinked s.cells v y)) u y (far_end v u (s.cells v y))
    movable =
        record {
          from = h.inside;
          to = far_is (λ p. p < s.made) h.inside (h.stage.within (s.cells v y) (inv y) v back);
          from_live = h.alive;
          to_live = far_is (Live (v ∷ []) s) h.alive (h.stage.live (s.cells v y) (inv y) v back);
          letter = h.stage.lettered v y (s.cells v y) edge;
          letter_back = h.stage.lettered (s.cells v y) (inv y) v back;
          label_in =
              alike_step S (label u) (label v) (label (far_end v u (s.cells v y))) (label (s.cells v y)) y
              (alike_names S h.stage u v h.one)
              (alike_names S h.stage (s.cells v y) (far_end v u (s.cells v y)) far_one)
              (h.stage.labelled v y (s.cells v y) edge);
        }

    move_kept : Kept H label ys (v ∷ []) s (joined (with_cells s (unlinked s.cells v y)) u y (far_end v u (s.cells v y)))
    unfolding weight
    move_kept =
        record {
          stage = k.stage;
          grows = grows_by (joined_grows (with_cells s (unlinked s.cells v y)) u y (far_end v u (s.cells v y))).same cells;
          live = k.live;
          made = k.made;
          weighs = k.weighs;
        }
      where
        s₁ : State
        s₁ = with_cells s (unlinked s.cells v y)

        t : State
        t = joined (with_cells s (unlinked s.cells v y)) u y (far_end v u (s.cells v y))

        k : Kept H label ys (v ∷ []) s₁ t
        k = joined_kept S (unlinked_stage h.stage v y n) u y (far_end v u (s.cells v y)) movable

        there : Over t v y (s.cells v y)
        there =
            over_names t u y (far_end v u (s.cells v y)) v (s.cells v y) (k.grows.same u v h.one)
            (sym (k.grows.same (s.cells v y) (far_end v u (s.cells v y)) far_one))
            (joined_over s₁ u y (far_end v u (s.cells v y)) (unlinked_turn s.cells v y n h.stage.turn)
            (made_point S h.stage (far_end v u (s.cells v y)) movable.to))

        cells : (p z x : ℕ) → Leads s.cells p z x → Over t p z x
        cells p z x l =
            ⊎_elim
            (λ e. ⊎_elim (λ i. subst₃ (Over t) (sym i.0) (sym i.1) (sym i.2) there)
            (λ i. subst₃ (Over t) (sym i.0) (sym i.1) (sym i.2) (over_turn t k.stage.turn v y (s.cells v y) there)) e)
            (λ m. k.grows.over p z x (cell_over s₁ p z x m))
            (unlinked_cases s.cells v y h.stage.turn p z x n l)

  -- a move is a step
  pub moved_kept : {s : State} {v u : ℕ} → Handles H label ys s v u → (y : ℕ) → Kept H label ys (v ∷ []) s (moved s v u y)
  moved_kept {s} {v} {u} h y =
      moved_cases (Kept H label ys (v ∷ []) s) s v u y (λ e. kept_refl h.stage) (λ n. move_kept h y n)

  -- after it, v is in hand as before
  pub moved_handles : {s t : State} {v u : ℕ} → Handles H label ys s v u → Kept H label ys (v ∷ []) s t → Handles H label ys t v u
  moved_handles {v = v} {u = u} h k =
      record {
        stage = k.stage;
        one = k.grows.same u v h.one;
        other = h.other;
        alive = k.live u h.alive;
        inside = omega (arith, k.made, h.inside);
      }

  -- a move for each of some letters
  pub cleared_kept : {s : State} {v u : ℕ} → Handles H label ys s v u → (l : List ℕ) → Kept H label ys (v ∷ []) s (cleared s v u l)
  unfolding cleared
  cleared_kept h [] = kept_refl h.stage
  cleared_kept {s = s} {v = v} {u = u} h (y ∷ l) =
      let k = moved_kept h y in kept_trans k (cleared_kept {s = moved s v u y} (moved_handles h k) l)

-- those cells of the row are empty
pub cleared_row : (s : State) (v u : ℕ) (l : List ℕ) (z : ℕ) → (u ≡ v → ⊥) → (s.cells v z ≡ absent) ⊎ (z ∈ l)
    → (cleared s v u l).cells v z ≡ absent
unfolding cleared
cleared_row s v u [] z n e = ⊎_elim (λ q. q) (λ m. absurd (mem-none m)) e
cleared_row s v u (y ∷ l) z n e =
    cleared_row (moved s v u y) v u l z n
    (⊎_elim (λ q. inl (moved_absent s v u y z n q))
    (λ m. ⊎_elim (λ q. inl (subst (λ a. (moved s v u y).cells v a ≡ absent) (sym q) (moved_clears s v u y n))) inr (mem-cons m)) e)
