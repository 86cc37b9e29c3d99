-- The contract of `note_paths` fixes the cells.
--   paths_determined : two outcomes that conform on one input are equal
-- Assumes nothing.
use mathlib.Core.Path.{◌≡◌, sym, ◌∙◌, ap}
use mathlib.Core.Logic.{by_cases}
use mathlib.Core.Option.{some-injective}
use mathlib.Core.List.{List}
use Prim.Native.Nat.{ℕ, ◌+◌, ◌-◌, ◌*◌, ◌<◌}
use native.Mathlib.Decide.{ℕ_discrete, dec_lt}
use native.Mathlib.Omega.{arith}
use lib.ListN.{length, get_or}
use lib.Seq.{ext_get_or, get_or-drop}
use Rattle.theory.specs.Basis.{Spot}
use Rattle.theory.proofs.PathLaws.{spot}
use Rattle.paths.specs.Paths.{PathCells, PathsOutcome}

module _ {n N : ℕ} {t a b : List ℕ} (p : PathCells n N t a) (q : PathCells n N t b) where
  -- the spots noted are the same
  spots : (x : ℕ) → (x ≡ 0 → ⊥) → x < N → spot (get_or a x 0) (get_or a (N + x) 0) ≡ spot (get_or b x 0) (get_or b (N + x) 0)
  spots x z h = some-injective (spot (get_or a x 0) (get_or a (N + x) 0)) (spot (get_or b x 0) (get_or b (N + x) 0)) (sym (p.met x z h) ∙ q.met x z h)

  points : (x : ℕ) → x < N → get_or a x 0 ≡ get_or b x 0
  points x h =
      by_cases (ℕ_discrete x 0) (λ z. ap (λ i. get_or a i 0) z ∙ p.base.0 ∙ sym q.base.0 ∙ ap (λ i. get_or b i 0) (sym z))
      (λ z. ap (λ (s : Spot). s.point) (spots x z h))

  letters : (x : ℕ) → x < N → get_or a (N + x) 0 ≡ get_or b (N + x) 0
  letters x h =
      by_cases (ℕ_discrete x 0)
      (λ z. let e : N + x ≡ N = omega arith in
      ap (λ i. get_or a i 0) e ∙ p.base.1 ∙ sym q.base.1 ∙ ap (λ i. get_or b i 0) (sym e))
      (λ z. ap (λ (s : Spot). s.letter) (spots x z h))

  depths : (x : ℕ) → x < N → get_or a (2 * N + x) 0 ≡ get_or b (2 * N + x) 0
  depths x h = p.depth x h ∙ sym (q.depth x h)

pub paths_determined : (n N : ℕ) (t work a b : List ℕ) → PathsOutcome n N t work a → PathsOutcome n N t work b → a ≡ b
paths_determined n N t work a b p q = ext_get_or 0 a b (p.size ∙ sym q.size) at
  where
    moved : (l : List ℕ) (i j : ℕ) → i ≡ j → get_or l i 0 ≡ get_or l j 0
    moved l i j e = ap (λ k. get_or l k 0) e

    same : (i j : ℕ) → i ≡ j → get_or a j 0 ≡ get_or b j 0 → get_or a i 0 ≡ get_or b i 0
    same i j e h = moved a i j e ∙ h ∙ moved b j i (sym e)

    at : (i : ℕ) → i < length a → get_or a i 0 ≡ get_or b i 0
    at i h =
        by_cases (dec_lt i N) (λ l. points p.paths q.paths i l)
        (λ l. by_cases (dec_lt i (2 * N)) (λ m. same i (N + (i - N)) (omega arith) (letters p.paths q.paths (i - N) (omega arith)))
        (λ m. by_cases (dec_lt i (3 * N)) (λ k. same i (2 * N + (i - 2 * N)) (omega arith) (depths p.paths q.paths (i - 2 * N) (omega arith)))
        (λ k. same i (3 * N + (i - 3 * N)) (omega arith)
        (sym (get_or-drop (3 * N) a (i - 3 * N) 0) ∙ ap (λ l. get_or l (i - 3 * N) 0) (p.rest ∙ sym q.rest) ∙ get_or-drop (3 * N) b (i - 3 * N) 0))))
