-- How far a reading comes, as code holds it, cited by `read`.
--   reading_as n N t w == theory's `reading_of` of the word w in the table
-- Assumes nothing.
use Rattle.std.specs.Prelude.{List, ℕ}
use Rattle.std.specs.declared.result.Result.{Result}
use Rattle.std.specs.declared.result.Result.TheVariants.{Ok, Err}
use Rattle.theory.specs.Tables.{cell, Reading as ReadingOf, stopped, ended, reading_of}
use Rattle.members.specs.declared.Stop.{Stop}

abbrev pub read_as : ReadingOf → Result ℕ Stop
read_as (stopped k v y) = Err (record { count = k; point = v; letter = y })
read_as (ended v) = Ok v

unfoldable pub reading_as : ℕ → ℕ → List ℕ → List ℕ → Result ℕ Stop
reading_as n N t w = read_as (reading_of (cell n N t) w)
