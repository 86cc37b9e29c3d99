-- What saving says, on plain values: a refusal of what is saved, 9, or the file (`specs/Saves`).
--   early_refused, short_refused, all_written : the three outcomes, for any file; room_held : what is written has room
--   table_short, table_room, table_written    : a table that `check` does not refuse; list_short, list_room, list_written : a list
--   table_refused, table_fine                 : a table, by what `check` says of it; scan_refused, scan_fine : a list, by what `scan` says
-- Assumes nothing.
use mathlib.Core.Path.{◌≡◌, refl, sym, ◌∙◌, ap}
use mathlib.Core.Bool.{true}
use mathlib.Core.Option.{Option, none}
use mathlib.Core.List.{List, ◌++◌}
use Prim.Native.Nat.{ℕ, ◌+◌, ◌≤◌}
use native.Mathlib.Omega.{arith}
use lib.Dec.{ltb}
use lib.ListN.{length, drop}
use borrow.Author.Tests.{ltb-false}
use Rattle.std.specs.Prelude.{⊤}
use Rattle.std.specs.declared.result.Result.TheVariants.{Ok, Err}
use Rattle.theory.specs.Files.{table_file, list_file}
use Rattle.theory.specs.Letters.{words_of}
use Rattle.theory.specs.Refusals.{Refusal as FirstCause, or_else, text_refusal}
use Rattle.theory.specs.TableRefusals.{cell_refusal, check_refusal}
use Rattle.theory.proofs.TableRefusalLaws.{unrefused}
use Rattle.refusals.specs.declared.Cause.TheVariants.{Output}
use Rattle.refusals.specs.declared.Refusal.{Refusal}
use Rattle.refusals.specs.Given.{unless, unless_short}
use Rattle.refusals.proofs.UnlessLaws.{unless_ok, unless_err, ok_unless, short_unless}
use Rattle.refusals.proofs.StageLaws.{err_any, err_first}
use Rattle.tables.specs.Lent.{IsLent}
use Rattle.tables.specs.Checks.{figures_as, checked_as}
use Rattle.tables.proofs.LentLaws.{lent_alphabet, lent_size}
use Rattle.numbers.specs.Splices.{spliced, WrittenAt}
use Rattle.saves.specs.Saves.{short_refusal, out_for, SaveOutcome, save_table_refusal, SaveTableOutcome, save_list_refusal, SaveListOutcome}

-- ── Any file ──

module _ (file out : List ℕ) (o : Option FirstCause) where
  refused : {A : Type 0} (a : A) {r : Refusal} → Err r ≡ unless o a → SaveOutcome file o out (Err r) out
  refused a e = record { answer = err_any o a (length file) e; cells = sym (ap (out_for file out) (unless_err o a e).1) }

  saved : {end : ℕ} {after : List ℕ} → o ≡ none → WrittenAt 0 file out end after → SaveOutcome file o out (Ok end) after
  unfolding spliced
  saved e w =
      record {
        answer = ap Ok (w.next ∙ first) ∙ ok_unless o (length file) e;
        cells = w.cells ∙ ap (λ k. file ++ drop k out) first ∙ sym (ap (out_for file out) e);
      }
    where
      first : 0 + length file ≡ length file
      first = omega arith

module _ (file out : List ℕ) (early : Option FirstCause) where
  abbrev refusal : Option FirstCause
  refusal = or_else early (short_refusal file (length out))

  pub early_refused : {A : Type 0} (a : A) {r : Refusal} → Err r ≡ unless early a → SaveOutcome file refusal out (Err r) out
  early_refused a e = refused file out refusal a (err_first early a a (short_refusal file (length out)) e)

  module _ (e : early ≡ none) {needed : ℕ} (is : needed ≡ length file) where
    -- behind what is saved the room decides
    by_room : unless_short Output needed (length out) ≡ unless refusal (tt {0})
    unfolding short_refusal
    by_room = rw (e, is) (short_unless Output (length file) (length out) refl)

    pub short_refused : {r : Refusal} → Err r ≡ unless_short Output needed (length out) → SaveOutcome file refusal out (Err r) out
    short_refused s = refused file out refusal (tt {0}) (s ∙ by_room)

    module _ {u : ⊤} (s : Ok u ≡ unless_short Output needed (length out)) where
      clear : refusal ≡ none
      clear = (unless_ok refusal (tt {0}) (s ∙ by_room)).0

      pub room_held : length file ≤ length out
      unfolding short_refusal
      room_held = ltb-false (length out) (length file) (unrefused (ltb (length out) (length file)) 9 (length file) (rw e at clear))

      pub all_written : {end : ℕ} {after : List ℕ} → WrittenAt 0 file out end after → SaveOutcome file refusal out (Ok end) after
      all_written w = saved file out refusal clear w

-- ── Tables ──

module _ (n N : ℕ) (t out : List ℕ) where
  module _ (e : check_refusal n N t ≡ none) {needed : ℕ} (is : needed ≡ length (table_file n N t)) where
    pub table_short : {r : Refusal} → Err r ≡ unless_short Output needed (length out) → SaveTableOutcome n N t out (Err r) out
    unfolding save_table_refusal
    table_short s = short_refused (table_file n N t) out _ e is s

    module _ {u : ⊤} (s : Ok u ≡ unless_short Output needed (length out)) where
      pub table_room : length (table_file n N t) ≤ length out
      table_room = room_held (table_file n N t) out _ e is s

      pub table_written : {end : ℕ} {after : List ℕ} → WrittenAt 0 (table_file n N t) out end after → SaveTableOutcome n N t out (Ok end) after
      unfolding save_table_refusal
      table_written w = all_written (table_file n N t) out _ e is s w

  pub table_refused : {r : Refusal} → Err r ≡ checked_as n N t → SaveTableOutcome n N t out (Err r) out
  unfolding save_table_refusal checked_as
  table_refused e = early_refused (table_file n N t) out _ (figures_as n N t) e

pub table_fine : {n N : ℕ} {t : List ℕ} → IsLent n N t → cell_refusal n N t ≡ none → check_refusal n N t ≡ none
unfolding check_refusal
table_fine L e = rw (lent_alphabet L, lent_size L, e)

-- ── Lists ──

module _ (n : ℕ) (list out : List ℕ) where
  module _ (e : text_refusal n true list ≡ none) {needed : ℕ} (is : needed ≡ length (list_file n (words_of list))) where
    pub list_short : {r : Refusal} → Err r ≡ unless_short Output needed (length out) → SaveListOutcome n list out (Err r) out
    unfolding save_list_refusal
    list_short s = short_refused (list_file n (words_of list)) out _ e is s

    module _ {u : ⊤} (s : Ok u ≡ unless_short Output needed (length out)) where
      pub list_room : length (list_file n (words_of list)) ≤ length out
      list_room = room_held (list_file n (words_of list)) out _ e is s

      pub list_written : {end : ℕ} {after : List ℕ} → WrittenAt 0 (list_file n (words_of list)) out end after → SaveListOutcome n list out (Ok end) after
      unfolding save_list_refusal
      list_written w = all_written (list_file n (words_of list)) out _ e is s w

  pub scan_refused : {r : Refusal} → Err r ≡ unless (text_refusal n true list) (tt {0}) → SaveListOutcome n list out (Err r) out
  unfolding save_list_refusal
  scan_refused e = early_refused (list_file n (words_of list)) out _ (tt {0}) e

pub scan_fine : (n : ℕ) (list : List ℕ) {u : ⊤} → Ok u ≡ unless (text_refusal n true list) (tt {0}) → text_refusal n true list ≡ none
scan_fine n list e = (unless_ok (text_refusal n true list) (tt {0}) e).0
