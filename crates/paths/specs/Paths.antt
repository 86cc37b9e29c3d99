-- Paths of points as lent cells hold them (document 01, 'Basis and expression'), cited by `note_paths` and by those that follow them.
--   PathCells n N t work  <-> cell x holds the point from whose row x was first met, cell N + x the letter, cell 2N + x its path's length
--   PathsOutcome          <-> so it is, and the cells from 3N on are as they were
-- The base was met nowhere: its first two cells hold 0. Assumes nothing.
use Rattle.std.specs.Prelude.{◌≡◌, List, ℕ, ◌+◌, ◌*◌, ◌<◌, length, get_or, drop}
use Rattle.std.proofs.Math.Option.{some}
use Rattle.theory.specs.Letters.{usual}
use Rattle.theory.specs.Tables.{cell}
use Rattle.theory.specs.Basis.{first_met, path_of}

pub record PathCells (n N : ℕ) (t work : List ℕ) : Type 0 where
  pub base : (get_or work 0 0 ≡ 0) × (get_or work N 0 ≡ 0)
  pub met : (x : ℕ) → (x ≡ 0 → ⊥) → x < N
      → first_met (cell n N t) N (usual n) x ≡ some (record { point = get_or work x 0; letter = get_or work (N + x) 0 })
  pub depth : (x : ℕ) → x < N → get_or work (2 * N + x) 0 ≡ length (path_of (cell n N t) N (usual n) x)

pub record PathsOutcome (n N : ℕ) (t work after : List ℕ) : Type 0 where
  pub paths : PathCells n N t after
  pub size : length after ≡ length work
  pub rest : drop (3 * N) after ≡ drop (3 * N) work
