-- Laws of cells and of the usual letter order (`specs/Tables`, `specs/Letters`).
--   Bounded c N ys <-> only the N rows and the letters ys have cells that are not absent
--   Once ys        <-> no letter stands twice in ys
--   row_below, cell_here : where a row ends, and where a cell stands
-- The laws of tables take these two of any letter order; `cell_bounded` and `usual_once` give them for document 01's.
-- Assumes nothing.
use mathlib.Core.Path.{◌≡◌, refl, sym, ◌∙◌, ap}
use mathlib.Core.Logic.{by_cases}
use mathlib.Core.Bool.{◌&&◌}
use mathlib.Core.List.{List, [], ◌∷◌}
use Prim.Native.Nat.{ℕ, zero, suc, ◌+◌, ◌*◌, ◌<◌, ◌≤◌}
use native.Mathlib.Nat.{mul-le-mul_right, suc-mul}
use native.Mathlib.Decide.{ℕ_discrete}
use native.Mathlib.Numerals.{add-one}
use native.Mathlib.Omega.{arith}
use lib.Dec.{ltb}
use lib.ListN.{length, get_or, length-append, get_or-append}
use lib.Seq.{get_or_at}
use borrow.Author.Tests.{ltb-true, lt-ltb}
use Rattle.theory.specs.Letters.{up_to, usual}
pub use Rattle.theory.specs.Letters.{StandsIn}
use Rattle.theory.specs.Tables.{absent, Cells, cell}
use Rattle.theory.proofs.WordLaws.{by_test}
use Rattle.theory.proofs.RefusalLaws.{and_true}

abbrev pub Bounded : Cells → ℕ → List ℕ → Type 0
Bounded c N ys = (v y : ℕ) → (c v y ≡ absent → ⊥) → (v < N) × StandsIn ys y

abbrev pub Once : List ℕ → Type 0
Once ys = (i j : ℕ) → i < length ys → j < length ys → get_or ys i 0 ≡ get_or ys j 0 → i ≡ j

pub length-up_to : (k : ℕ) → length (up_to k) ≡ k
unfolding up_to
length-up_to zero = refl
length-up_to (suc k) = length-append (up_to k) (k ∷ []) ∙ add-one (length (up_to k)) ∙ ap suc (length-up_to k)

-- the i-th of the numbers below k is i
pub get_or-up_to : (k i : ℕ) → i < k → get_or (up_to k) i 0 ≡ i
unfolding up_to
get_or-up_to zero i h = absurd (omega arith)
get_or-up_to (suc k) i h =
    by_cases (ℕ_discrete i k)
    (λ e. get_or_at (up_to k) k [] 0 i (length-up_to k ∙ sym e) ∙ sym e)
    (λ e. get_or-append (up_to k) (k ∷ []) 0 i (omega (arith, length-up_to k)) ∙ get_or-up_to k i (omega arith))

pub length_usual : (n : ℕ) → length (usual n) ≡ 2 * n
unfolding usual
length_usual n = length-up_to (2 * n)

pub get_or_usual : (n i : ℕ) → i < 2 * n → get_or (usual n) i 0 ≡ i
unfolding usual
get_or_usual n i h = get_or-up_to (2 * n) i h

pub usual_once : (n : ℕ) → Once (usual n)
usual_once n i j hi hj e =
    sym (get_or_usual n i (omega (arith, length_usual n))) ∙ e ∙ get_or_usual n j (omega (arith, length_usual n))

-- a cell within its rows and letters is the table's
pub cell_in : (n N : ℕ) (t : List ℕ) (v y : ℕ) → v < N → y < 2 * n → cell n N t v y ≡ get_or t (v * (2 * n) + y) absent
unfolding cell
cell_in n N t v y hv hy = rw (lt-ltb v N hv, lt-ltb y (2 * n) hy)

-- a cell outside them is absent
pub cell_bounded : (n N : ℕ) (t : List ℕ) → Bounded (cell n N t) N (usual n)
unfolding cell
cell_bounded n N t v y h =
    by_test (ltb v N && ltb y (2 * n))
    (λ e. let a = and_true (ltb v N) (ltb y (2 * n)) e in
    let hy = ltb-true y (2 * n) a.1 in
    (ltb-true v N a.0, (y, omega (arith, length_usual n), get_or_usual n y hy)))
    (λ e. absurd (h (rw e)))

-- the cells of a row that is there are there
pub row_below : (N w v : ℕ) → v < N → v * w + w ≤ N * w
row_below N w v h = omega (arith, mul-le-mul_right w h, suc-mul v w)

-- what stands at a place that is there does not depend on what stands beyond the end
get_or_there : (l : List ℕ) (i d e : ℕ) → i < length l → get_or l i d ≡ get_or l i e
get_or_there [] i d e h = absurd (omega arith)
get_or_there (x ∷ l) zero d e h = refl
get_or_there (x ∷ l) (suc i) d e h = get_or_there l i d e (omega arith)

-- where a cell stands
pub cell_here : (n N : ℕ) (t : List ℕ) (v y : ℕ) → v < N → y < 2 * n → N * (2 * n) ≤ length t → get_or t (v * (2 * n) + y) 0 ≡ cell n N t v y
cell_here n N t v y hv hy h =
    get_or_there t (v * (2 * n) + y) 0 absent (omega (arith, row_below N (2 * n) v hv)) ∙ sym (cell_in n N t v y hv hy)
