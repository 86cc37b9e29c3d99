-- Saving (document 01, 'The saved file'; refusals 1, 6, 8, 9 of a table, 1 to 5 and 9 of a list), cited by `save_table`, `save_list`.
--   SaveOutcome      <-> a refusal leaves the output as it was, else it starts with the file and is as it was behind it
--   SaveTableCause   == the causes of `save_table`, by number
--   save_table_refusal == the first of them, computed (`proofs/CauseLaws` proves it to be `First`)
--   SaveListCause, save_list_refusal == the same of `save_list`
-- 9 is placed at the length of the file. Assumes nothing.
use Rattle.std.specs.Prelude.{◌≡◌, true, List, ◌++◌, ℕ, ltb, length, drop}
use Rattle.std.proofs.Math.Option.{Option, none, some}
use Rattle.std.specs.declared.result.Result.{Result}
use Rattle.theory.specs.Files.{table_file, list_file}
use Rattle.theory.specs.Letters.{words_of}
use Rattle.theory.specs.Refusals.{Refusal as FirstCause, CauseShort, Only, Join, or_else, refused_if, TextCause, text_refusal}
use Rattle.theory.specs.TableRefusals.{CheckCause, check_refusal}
use Rattle.refusals.specs.declared.Refusal.{Refusal}
use Rattle.refusals.specs.Given.{unless}

-- the output is too short for a file
unfoldable pub short_refusal : List ℕ → ℕ → Option FirstCause
short_refusal file room = refused_if (ltb room (length file)) 9 (length file)

abbrev pub out_for : List ℕ → List ℕ → Option FirstCause → List ℕ
out_for file out none = file ++ drop (length file) out
out_for file out (some r) = out

pub record SaveOutcome (file : List ℕ) (refusal : Option FirstCause) (out : List ℕ) (r : Result ℕ Refusal) (after : List ℕ) : Type 0 where
  pub answer : r ≡ unless refusal (length file)
  pub cells : after ≡ out_for file out refusal

-- ── Tables ──

abbrev pub SaveTableCause : ℕ → ℕ → List ℕ → ℕ → ℕ → ℕ → Type 0
SaveTableCause n N t room = Join (CheckCause n N t) (Only 9 (CauseShort (length (table_file n N t)) room))

unfoldable pub save_table_refusal : ℕ → ℕ → List ℕ → ℕ → Option FirstCause
save_table_refusal n N t room = or_else (check_refusal n N t) (short_refusal (table_file n N t) room)

abbrev pub SaveTableOutcome : ℕ → ℕ → List ℕ → List ℕ → Result ℕ Refusal → List ℕ → Type 0
SaveTableOutcome n N t out r after = SaveOutcome (table_file n N t) (save_table_refusal n N t (length out)) out r after

-- ── Lists ──

abbrev pub SaveListCause : ℕ → List ℕ → ℕ → ℕ → ℕ → Type 0
SaveListCause n list room = Join (TextCause n true list) (Only 9 (CauseShort (length (list_file n (words_of list))) room))

unfoldable pub save_list_refusal : ℕ → List ℕ → ℕ → Option FirstCause
save_list_refusal n list room = or_else (text_refusal n true list) (short_refusal (list_file n (words_of list)) room)

abbrev pub SaveListOutcome : ℕ → List ℕ → List ℕ → Result ℕ Refusal → List ℕ → Type 0
SaveListOutcome n list out r after = SaveOutcome (list_file n (words_of list)) (save_list_refusal n list (length out)) out r after
