-- What `save_table` and `save_list` have written (saves' outcomes).
--   table_saved, list_saved : what was written is the file, and nothing refused it
--   table_saves, list_saves : what is not refused, and has room, is written
-- Assumes nothing.
use mathlib.Core.Path.{◌≡◌, refl, sym, ◌∙◌, ap}
use mathlib.Core.Bool.{true}
use mathlib.Core.Option.{Option, none}
use mathlib.Core.List.{List}
use Prim.Native.Nat.{ℕ, ◌≤◌}
use lib.ListN.{length, take, drop}
use lib.Seq.{take_at}
use borrow.Author.Tests.{le-ltb}
use Rattle.std.specs.declared.result.Result.{Result}
use Rattle.std.specs.declared.result.Result.TheVariants.{Ok}
use Rattle.theory.specs.Files.{table_file, list_file}
use Rattle.theory.specs.Letters.{words_of}
use Rattle.theory.specs.Refusals.{Refusal as FirstCause, text_refusal}
use Rattle.theory.specs.TableRefusals.{check_refusal}
use Rattle.theory.proofs.TableRefusalLaws.{else_none}
use Rattle.refusals.specs.declared.Refusal.{Refusal}
use Rattle.refusals.specs.Given.{unless}
use Rattle.refusals.proofs.UnlessLaws.{unless_ok}
use Rattle.saves.specs.Saves.{short_refusal, out_for, SaveOutcome, save_table_refusal, SaveTableOutcome, save_list_refusal, SaveListOutcome}
use Rattle.accords.proofs.CellsBack.{Fine, fine}

-- what was written is the file, and nothing refused it
saved : (file : List ℕ) (refusal : Option FirstCause) (out : List ℕ) (k : ℕ) (out' : List ℕ) → SaveOutcome file refusal out (Ok k) out'
    → (refusal ≡ none) × (take k out' ≡ file)
saved file refusal out k out' h =
    let a = unless_ok refusal (length file) h.answer in
    (a.0, ap (take k) (h.cells ∙ ap (out_for file out) a.0) ∙ take_at file (drop (length file) out) k (sym a.1))

-- what is not refused is written
save : (file : List ℕ) (refusal : Option FirstCause) (out : List ℕ) (r : Result ℕ Refusal) (out' : List ℕ) → SaveOutcome file refusal out r out' → refusal ≡ none
    → (r ≡ Ok (length file)) × (take (length file) out' ≡ file)
save file refusal out r out' h e = (
  h.answer ∙ ap (λ o. unless o (length file)) e,
  ap (take (length file)) (h.cells ∙ ap (out_for file out) e) ∙ take_at file (drop (length file) out) (length file) refl,
)

-- ── Tables ──

module _ (n N : ℕ) (t out : List ℕ) where
  pub table_saved : (k : ℕ) (out' : List ℕ) → SaveTableOutcome n N t out (Ok k) out' → Fine n N t × (take k out' ≡ table_file n N t)
  unfolding save_table_refusal
  table_saved k out' h =
      let s = saved (table_file n N t) (save_table_refusal n N t (length out)) out k out' h in
      (fine n N t (else_none (check_refusal n N t) _ s.0).0, s.1)

  table_clear : check_refusal n N t ≡ none → length (table_file n N t) ≤ length out → save_table_refusal n N t (length out) ≡ none
  unfolding save_table_refusal short_refusal
  table_clear e h = rw (e, le-ltb (length out) (length (table_file n N t)) h)

  pub table_saves : (r : Result ℕ Refusal) (out' : List ℕ) → SaveTableOutcome n N t out r out' → check_refusal n N t ≡ none → length (table_file n N t) ≤ length out
      → (r ≡ Ok (length (table_file n N t))) × (take (length (table_file n N t)) out' ≡ table_file n N t)
  table_saves r out' h e room = save (table_file n N t) (save_table_refusal n N t (length out)) out r out' h (table_clear e room)

-- ── Lists ──

module _ (n : ℕ) (list out : List ℕ) where
  abbrev whole : List ℕ
  whole = list_file n (words_of list)

  pub list_saved : (k : ℕ) (out' : List ℕ) → SaveListOutcome n list out (Ok k) out' → (text_refusal n true list ≡ none) × (take k out' ≡ whole)
  unfolding save_list_refusal
  list_saved k out' h =
      let s = saved whole (save_list_refusal n list (length out)) out k out' h in ((else_none (text_refusal n true list) _ s.0).0, s.1)

  list_clear : text_refusal n true list ≡ none → length whole ≤ length out → save_list_refusal n list (length out) ≡ none
  unfolding save_list_refusal short_refusal
  list_clear e h = rw (e, le-ltb (length out) (length whole) h)

  pub list_saves : (r : Result ℕ Refusal) (out' : List ℕ) → SaveListOutcome n list out r out' → text_refusal n true list ≡ none → length whole ≤ length out
      → (r ≡ Ok (length whole)) × (take (length whole) out' ≡ whole)
  list_saves r out' h e room = save whole (save_list_refusal n list (length out)) out r out' h (list_clear e room)
