-- What loading says and leaves (document 01, 'The saved file' and the files' own order), cited by `load`.
--   FileIn             == what a file holds: a refusal by its kind or n, a table, or a list (table_files, list_files)
--   file_in cells space file == that, for a lent table of so many cells and a lent text of so many bytes
--   loaded_for          == the answer: a refusal, a table with n and its points, or a list with n and the size of its text
--   LoadOutcome       <-> the answer and both buffers; the other kind's buffer is as it was
-- Assumes nothing.
use Rattle.std.specs.Prelude.{◌≡◌, cond, ◌||◌, List, ℕ, eqb, length}
use Rattle.std.specs.declared.result.Result.{Result}
use Rattle.std.specs.declared.result.Result.TheVariants.{Ok, Err}
use Rattle.std.proofs.Math.Option.{Option, none, some}
use Rattle.theory.specs.Refusals.{Refusal as FirstCause, is_alphabet}
use Rattle.refusals.specs.declared.Refusal.{Refusal}
use Rattle.refusals.specs.Given.{given}
use Rattle.runs.specs.Runs.{number_at, behind}
use Rattle.table_files.specs.TableFiles.{TableIn, refused, faulty, sound, table_in, table_for}
use Rattle.list_files.specs.ListFiles.{ListIn, refused as unlisted, listed, list_in, size_of, text_for}
use Rattle.loads.specs.declared.Loaded.{Loaded}
use Rattle.loads.specs.declared.Loaded.TheVariants.{Table, List as ListLoaded}

pub data FileIn : Type 0 where
  unread : FirstCause → FileIn
  table_met : ℕ → TableIn → FileIn
  list_met : ℕ → ListIn → FileIn

-- what stands behind n, from p on
abbrev pub by_kind : ℕ → ℕ → List ℕ → ℕ → ℕ → ℕ → FileIn
by_kind cells space file kind n p = cond (eqb kind 1) (table_met n (table_in n cells file p)) (list_met n (list_in n space file p))

-- the number n at p, and what follows it
abbrev pub after_n : ℕ → ℕ → List ℕ → ℕ → ℕ → Option ℕ → FileIn
after_n cells space file kind p none = unread (record { number = 10; place = p })
after_n cells space file kind p (some n) =
    cond (is_alphabet n) (by_kind cells space file kind n (behind p n)) (unread (record { number = 1; place = 0 }))

-- the kind, and what follows it
abbrev pub after_kind : ℕ → ℕ → List ℕ → Option ℕ → FileIn
after_kind cells space file none = unread (record { number = 10; place = 0 })
after_kind cells space file (some kind) =
    cond (eqb kind 1 || eqb kind 2) (after_n cells space file kind (behind 0 kind) (number_at file (behind 0 kind)))
    (unread (record { number = 11; place = 0 }))

unfoldable pub file_in : ℕ → ℕ → List ℕ → FileIn
file_in cells space file = after_kind cells space file (number_at file 0)

abbrev pub loaded_for : FileIn → Result Loaded Refusal
loaded_for (unread r) = Err (given r)
loaded_for (table_met n (refused r)) = Err (given r)
loaded_for (table_met n (faulty count r)) = Err (given r)
loaded_for (table_met n (sound N t)) = Ok (Table n N)
loaded_for (list_met n (unlisted r)) = Err (given r)
loaded_for (list_met n (listed ws)) = Ok (ListLoaded n (size_of ws))

abbrev pub table_after : List ℕ → FileIn → List ℕ
table_after table (unread r) = table
table_after table (table_met n m) = table_for table m
table_after table (list_met n m) = table

abbrev pub text_after : List ℕ → FileIn → List ℕ
text_after text (unread r) = text
text_after text (table_met n m) = text
text_after text (list_met n m) = text_for text m

-- the answer and both buffers, by what the file holds
pub record FileOutcome (m : FileIn) (table text : List ℕ) (r : Result Loaded Refusal) (table' text' : List ℕ) : Type 0 where
  pub answer : r ≡ loaded_for m
  pub cells : table' ≡ table_after table m
  pub bytes : text' ≡ text_after text m

abbrev pub LoadOutcome : List ℕ → List ℕ → List ℕ → Result Loaded Refusal → List ℕ → List ℕ → Type 0
LoadOutcome file table text = FileOutcome (file_in (length table) (length text) file) table text
