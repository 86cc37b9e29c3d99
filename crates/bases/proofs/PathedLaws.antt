-- The paths in the cells are those of the table, and what the tests and lines of spots say.
--   IsPathed n N t work <-> the table is sound, and the work holds the paths of its points; pathed : so does each value of `Pathed`
--   letter_small : the letters noted are below 52
--   noted_path_lem : what is followed up from x is the path of x; chain : it can be followed
--   outside_capital, outside_absent, outside_forth, outside_back : the test for an edge that no path uses
--   line_text : the line of such an edge
-- Assumes nothing.
use mathlib.Core.Path.{◌≡◌, refl, sym, ◌∙◌, ap}
use mathlib.Core.Logic.{by_cases}
use mathlib.Core.Bool.{Bool, true, false, not, ◌&&◌}
use mathlib.Core.List.{List, [], ◌∷◌, ◌++◌, map, append_assoc}
use Prim.Native.Nat.{ℕ, zero, suc, ◌+◌, ◌*◌, ◌%◌, ◌<◌}
use native.Mathlib.Decide.{ℕ_discrete}
use native.Mathlib.Omega.{arith}
use lib.Dec.{eqb}
use lib.ListN.{length, get_or, length-append}
use borrow.Author.Tests.{eq-eqb, ne_eqb, eqb-false, not-true}
use Rattle.theory.specs.Words.{inv, inverse_of}
use Rattle.theory.specs.Letters.{byte_of, line_end, usual}
use Rattle.theory.specs.Tables.{absent, Cells, Leads, cell}
use Rattle.theory.specs.Graphs.{is_lower}
use Rattle.theory.specs.Basis.{first_met, path_of, is_spot, is_path_step, is_path_edge, is_edge, edges_of, outside_edges, basis_word}
use Rattle.theory.specs.Texts.{list_text}
use Rattle.theory.proofs.RefusalLaws.{and_true}
use Rattle.theory.proofs.TableLaws.{length_usual, get_or_usual}
use Rattle.theory.proofs.EdgeLaws.{mem_those, mem_scan}
use Rattle.theory.proofs.PathLaws.{Setting, spot, Step, leads_in, step_leads, path_base, path_step, path_length}
use Rattle.theory.proofs.BasisLaws.{basis_word_plain}
use Rattle.tables.proofs.LentLaws.{IsSound, sound, sound_setting}
use Rattle.paths.specs.Paths.{PathCells}
use Rattle.bases.specs.Chains.{depth_of, noted_path, is_noted_step, path_bytes, back_bytes, loop_bytes}
use Rattle.bases.specs.Words.{is_outside, text_of}
use Rattle.bases.specs.declared.Pathed.{Pathed}
use Rattle.bases.proofs.ChainLaws.{Chain, map-append, length_loop_bytes}
use Rattle.bases.proofs.SpotLaws.{one_outside}

empty : {A : Type 0} (l : List A) → length l ≡ 0 → l ≡ []
empty [] e = refl
empty (x ∷ l) e = absurd (omega arith)

pub record IsPathed (n N : ℕ) (t work : List ℕ) : Type 0 where
  pub sound : IsSound n N t
  pub paths : PathCells n N t work

pub pathed : (p : Pathed) → IsPathed p.table.n p.table.points p.table.cells.now p.notes.now
pathed p = record { sound = sound p.table; paths = p.paths }

module _ {n N : ℕ} {t work : List ℕ} (P : IsPathed n N t work) where
  abbrev c : Cells
  c = cell n N t

  abbrev path : ℕ → List ℕ
  path = path_of (cell n N t) N (usual n)

  pub setting : Setting (cell n N t) N (usual n)
  setting = sound_setting P.sound

  -- what is noted of a point is its last step
  last_step : (x : ℕ) → (x ≡ 0 → ⊥) → x < N → Step c N (usual n) (spot (get_or work x 0) (get_or work (N + x) 0)) x
  last_step x z h = (z, P.paths.met x z h)

  -- a letter is noted of each point, and of the base 0
  pub letter_small : (x : ℕ) → x < N → get_or work (N + x) 0 < 52
  letter_small x h =
      by_cases (ℕ_discrete x 0) (λ z. omega (arith, P.paths.base.1, ap (λ k. get_or work k 0) (let e : N + x ≡ N = omega arith in e)))
      (λ z. let b = step_leads setting (spot (get_or work x 0) (get_or work (N + x) 0)) x (last_step x z h) h in
      let i = (leads_in setting (get_or work x 0) (get_or work (N + x) 0) x b.1).2 in
      omega (arith, length_usual n, get_or_usual n i.0 (omega (arith, length_usual n, i.1)), i.1, i.2, P.sound.lent.letters))

  follow : (d x : ℕ) → x < N → length (path x) ≡ d → (noted_path N work d x ≡ path x) × Chain N work d x
  unfolding noted_path
  follow zero x h e = (sym (empty (path x) e), tt)
  follow (suc d) x h e =
      let z : x ≡ 0 → ⊥ = λ q. omega (arith, e, ap length (ap path q ∙ path_base setting)) in
      let p = last_step x z h in
      let b = step_leads setting (spot (get_or work x 0) (get_or work (N + x) 0)) x p h in
      let s = path_step setting (spot (get_or work x 0) (get_or work (N + x) 0)) x p h in
      let i = leads_in setting (get_or work x 0) (get_or work (N + x) 0) x b.1 in
      let r = follow d (get_or work x 0) i.0 (omega (arith, e, ap length s, length-append (path (get_or work x 0)) (get_or work (N + x) 0 ∷ []))) in
      (ap (λ l. l ++ (get_or work (N + x) 0 ∷ [])) r.0 ∙ sym s, (h, r.1))

  pub depth_is : (x : ℕ) → x < N → depth_of N work x ≡ length (path_of (cell n N t) N (usual n) x)
  depth_is x h = P.paths.depth x h

  pub depth_small : (x : ℕ) → x < N → depth_of N work x < N
  depth_small x h = omega (arith, depth_is x h, path_length setting x h)

  pub noted_path_lem : (x : ℕ) → x < N → noted_path N work (depth_of N work x) x ≡ path_of (cell n N t) N (usual n) x
  noted_path_lem x h = (follow (depth_of N work x) x h (sym (depth_is x h))).0

  pub chain : (x : ℕ) → x < N → Chain N work (depth_of N work x) x
  chain x h = (follow (depth_of N work x) x h (sym (depth_is x h))).1

  -- the test of the cells is that of the table
  noted_step : (v y x : ℕ) → x < N → is_noted_step N work v y x ≡ (not (eqb x 0) && is_spot v y (first_met c N (usual n) x))
  noted_step v y x h = by_cases (ℕ_discrete x 0) (λ z. rw (eq-eqb x 0 z)) (λ z. rw (ne_eqb x 0 z, P.paths.met x z h))

  module _ (v y : ℕ) where
    pub outside_capital : (y % 2 ≡ 0 → ⊥) → false ≡ is_outside (cell n N t) N (usual n) (spot v y)
    unfolding is_outside
    outside_capital e = sym (rw (ne_eqb (y % 2) 0 e))

    module _ {x : ℕ} (q : x ≡ cell n N t v y) (l : y % 2 ≡ 0) where
      pub outside_absent : x ≡ absent → false ≡ is_outside (cell n N t) N (usual n) (spot v y)
      unfolding is_outside
      outside_absent e = sym (rw (eq-eqb (y % 2) 0 l, eq-eqb (c v y) absent (sym q ∙ e)))

      module _ (m : x ≡ absent → ⊥) where
        lead : Leads c v y (c v y)
        lead = (refl, λ e. m (q ∙ e))

        pub target_in : x < N
        target_in = omega (arith, q, P.sound.canonical.within v y (c v y) lead)

        forth : is_noted_step N work v y x ≡ is_path_step c N (usual n) v y
        unfolding is_path_step
        forth = noted_step v y x target_in ∙ ap (λ z. not (eqb z 0) && is_spot v y (first_met c N (usual n) z)) q

        pub outside_forth : {b : Bool} → b ≡ is_noted_step N work v y x → b ≡ true → false ≡ is_outside (cell n N t) N (usual n) (spot v y)
        unfolding is_outside is_path_edge
        outside_forth f e = sym (rw (eq-eqb (y % 2) 0 l, ne_eqb (c v y) absent lead.1, sym forth ∙ sym f ∙ e))

        pub outside_back : {b d : Bool} {z : ℕ} → v < N → b ≡ is_noted_step N work v y x → b ≡ false → z ≡ inv y → d ≡ is_noted_step N work x z v
            → not d ≡ is_outside (cell n N t) N (usual n) (spot v y)
        unfolding is_outside is_path_edge
        outside_back {b} {d} {z} h f e i g =
            ap not (g ∙ ap (λ k. is_noted_step N work x k v) i ∙ noted_step x (inv y) v h ∙ back)
            ∙ sym (rw (eq-eqb (y % 2) 0 l, ne_eqb (c v y) absent lead.1, sym forth ∙ sym f ∙ e))
          where
            there : c (c v y) (inv y) ≡ v
            there = (P.sound.canonical.inverse v y (c v y) lead).0

            back : (not (eqb v 0) && is_spot x (inv y) (first_met c N (usual n) v)) ≡ is_path_step c N (usual n) (c v y) (inv y)
            back = unfold is_path_step in (ap (λ u. not (eqb v 0) && is_spot u (inv y) (first_met c N (usual n) v)) q ∙ sym (ap (λ u. not (eqb u 0) && is_spot (c v y) (inv y) (first_met c N (usual n) u)) there))

    -- an edge that no path uses is one of the list
    listed : v < N → y < 2 * n → is_outside c N (usual n) (spot v y) ≡ true → (is_lower y ≡ true) × (c v y ≡ absent → ⊥) × (basis_word c N (usual n) (spot v y) ≡ path v ++ (y ∷ inverse_of (path (c v y))))
    unfolding is_outside outside_edges edges_of
    listed hv hy e =
        let a = and_true (is_edge c (spot v y)) (not (is_path_edge c N (usual n) v y)) e in
        let b = and_true (is_lower y) (not (eqb (c v y) absent)) a.0 in (
          b.0,
          eqb-false (c v y) absent (not-true (eqb (c v y) absent) b.1),
          basis_word_plain setting v y
              (mem_those (λ s. not (is_path_edge c N (usual n) s.point s.letter))
              (mem_those (is_edge c) (mem_scan N (usual n) v y hv (y, omega (arith, length_usual n), get_or_usual n y hy)) a.0) a.1),
        )

    module _ (hv : v < N) (hy : y < 2 * n) where
      module _ {x : ℕ} (q : x ≡ cell n N t v y) (e : is_outside (cell n N t) N (usual n) (spot v y) ≡ true) where
        pub far_in : x < N
        far_in = omega (arith, q, P.sound.canonical.within v y (c v y) (refl, (listed hv hy e).1))

        pub line_text : text_of (cell n N t) N (usual n) (spot v y ∷ []) ≡ loop_bytes N work v y x
        unfolding text_of list_text loop_bytes path_bytes back_bytes
        line_text =
            ap list_text (one_outside c N (usual n) (spot v y) e ∙ ap (λ w. w ∷ []) (listed hv hy e).2)
            ∙ ap (λ l. l ++ line_end ∷ []) (map-append byte_of (path v) (y ∷ inverse_of (path (c v y))))
            ∙ append_assoc (map byte_of (path v)) (byte_of y ∷ map byte_of (inverse_of (path (c v y)))) (line_end ∷ [])
            ∙ ap (λ l. map byte_of l ++ (byte_of y ∷ (map byte_of (inverse_of (path (c v y))) ++ (line_end ∷ [])))) (sym (noted_path_lem v hv))
            ∙ ap (λ l. map byte_of (noted_path N work (depth_of N work v) v) ++ (byte_of y ∷ (map byte_of (inverse_of l) ++ (line_end ∷ [])))) (ap path (sym q) ∙ sym (noted_path_lem x far_in))

        pub line_length : length (text_of (cell n N t) N (usual n) (spot v y ∷ [])) ≡ depth_of N work v + depth_of N work x + 2
        line_length = ap length line_text ∙ length_loop_bytes N work v y x
