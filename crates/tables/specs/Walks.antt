-- What the canonical walk says (document 01, 'The table'), cited by `walk`.
--   walk_of n N t   == the edges, and whether no cell is absent
--   walked_as n N t == refusal 8 at the lowest faulty cell; else that
-- Assumes nothing.
use Rattle.std.specs.Prelude.{List, ℕ, length}
use Rattle.std.specs.declared.result.Result.{Result}
use Rattle.theory.specs.Letters.{usual}
use Rattle.theory.specs.Tables.{cell}
use Rattle.theory.specs.TableRefusals.{cell_refusal}
use Rattle.theory.specs.Basis.{edges_of, is_full}
use Rattle.refusals.specs.declared.Refusal.{Refusal}
use Rattle.refusals.specs.Given.{unless}
use Rattle.tables.specs.declared.Walked.{Walked}

abbrev pub walk_of : ℕ → ℕ → List ℕ → Walked
walk_of n N t = record { edges = length (edges_of (cell n N t) N (usual n)); full = is_full (cell n N t) N (usual n) }

unfoldable pub walked_as : ℕ → ℕ → List ℕ → Result Walked Refusal
walked_as n N t = unless (cell_refusal n N t) (walk_of n N t)
