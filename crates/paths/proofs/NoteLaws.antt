-- The steps of `note_paths` on plain values.
--   length_noted, noted_point, noted_letter, noted_depth, noted_else, noted_rest : what noting leaves
--   new_none, new_some, new_beyond, new_not : the test for a new point
-- Assumes nothing.
use mathlib.Core.Path.{◌≡◌, refl, sym, ◌∙◌}
use mathlib.Core.Logic.{by_cases}
use mathlib.Core.Bool.{true, false, not}
use mathlib.Core.List.{List}
use Prim.Native.Nat.{ℕ, ◌+◌, ◌*◌, ◌≤◌, ◌<◌}
use native.Mathlib.Decide.{dec_lt}
use native.Mathlib.Omega.{arith}
use lib.Dec.{eqb, ltb}
use lib.ListN.{length, get_or, set, drop, length-set}
use lib.Seq.{get_or-set_same, get_or-set_other, drop-set-lt}
use borrow.Author.Tests.{eq-eqb, ne_eqb, lt-ltb, eqb-false, ltb-true, not-true}
use Rattle.theory.specs.Tables.{absent}
use Rattle.theory.proofs.RefusalLaws.{and_true}
use Rattle.theory.proofs.PlaceLaws.{passes_fails}
use Rattle.paths.specs.Notes.{noted, is_new}

module _ (N : ℕ) (work : List ℕ) (x v y d : ℕ) where
  pub length_noted : length (noted N work x v y d) ≡ length work
  length_noted = simp length-set refl

  module _ (h : x < N) (r : 3 * N ≤ length work) where
    pub noted_point : get_or (noted N work x v y d) x 0 ≡ v
    noted_point =
        get_or-set_other (set (set work x v) (N + x) y) (2 * N + x) x d 0 (λ e. omega arith)
        ∙ get_or-set_other (set work x v) (N + x) x y 0 (λ e. omega arith)
        ∙ get_or-set_same work x v 0 (omega arith)

    pub noted_letter : get_or (noted N work x v y d) (N + x) 0 ≡ y
    noted_letter =
        get_or-set_other (set (set work x v) (N + x) y) (2 * N + x) (N + x) d 0 (λ e. omega arith)
        ∙ get_or-set_same (set work x v) (N + x) y 0 (omega (arith, length-set work x v))

    pub noted_depth : get_or (noted N work x v y d) (2 * N + x) 0 ≡ d
    noted_depth =
        get_or-set_same (set (set work x v) (N + x) y) (2 * N + x) d 0
        (omega (arith, length-set work x v, length-set (set work x v) (N + x) y))

    -- other cells are as they were
    pub noted_else : (i : ℕ) → (i ≡ x → ⊥) → (i ≡ N + x → ⊥) → (i ≡ 2 * N + x → ⊥)
        → get_or (noted N work x v y d) i 0 ≡ get_or work i 0
    noted_else i e f g =
        get_or-set_other (set (set work x v) (N + x) y) (2 * N + x) i d 0 g
        ∙ get_or-set_other (set work x v) (N + x) i y 0 f
        ∙ get_or-set_other work x i v 0 e

    -- so are those behind the three sections
    pub noted_rest : drop (3 * N) (noted N work x v y d) ≡ drop (3 * N) work
    noted_rest =
        drop-set-lt (3 * N) (set (set work x v) (N + x) y) (2 * N + x) d (omega arith)
        ∙ drop-set-lt (3 * N) (set work x v) (N + x) y (omega arith)
        ∙ drop-set-lt (3 * N) work x v (omega arith)

module _ (g x : ℕ) where
  pub new_none : x ≡ absent → false ≡ is_new g x
  new_none e = sym (rw (eq-eqb x absent e))

  pub new_some : (x ≡ absent → ⊥) → ltb g x ≡ is_new g x
  new_some e = sym (rw (ne_eqb x absent e))

  pub new_beyond : is_new g x ≡ true → (x ≡ absent → ⊥) × (g < x)
  new_beyond e =
      let a = and_true (not (eqb x absent)) (ltb g x) e in
      (eqb-false x absent (not-true (eqb x absent) a.0), ltb-true g x a.1)

  -- what is not new is absent or was met
  pub new_not : is_new g x ≡ false → (x ≡ absent → ⊥) → x ≤ g
  new_not e m = by_cases (dec_lt g x) (λ h. passes_fails (rw (ne_eqb x absent m, lt-ltb g x h)) e) (λ h. omega arith)
