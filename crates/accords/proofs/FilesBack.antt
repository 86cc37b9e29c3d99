-- What `save_table`, `save_list` and `load` say of one another (document 01, 'The saved file').
--   saved_table_loads_back  : what `save_table` writes loads as the table, into any lent table with room for it
--   table_file_saves_back   : a file that loads as a table, saved from the cells read, is the same bytes
--   table_file_can_be_saved : and saving it is not refused where the output has room for the file
--   table_files_one         : two files that load as one table are the same bytes
--   saved_list_loads_back, list_file_saves_back, list_file_can_be_saved, list_files_one : the same of a list and its text
-- Assumes nothing.
use mathlib.Core.Path.{◌≡◌, refl, sym, ◌∙◌, ap, subst}
use mathlib.Core.Bool.{true}
use mathlib.Core.Option.{none}
use mathlib.Core.List.{List, ◌∷◌, ◌++◌, map}
use Prim.Native.Nat.{ℕ, ◌*◌, ◌≤◌}
use native.Mathlib.Omega.{arith}
use lib.ListN.{length, take, drop, length-append}
use lib.Seq.{take_at, drop_at, length-take-le, take-length}
use Rattle.std.specs.declared.result.Result.{Result}
use Rattle.std.specs.declared.result.Result.TheVariants.{Ok}
use Rattle.theory.specs.Files.{numbers_bytes, table_file, cell_number, list_file}
use Rattle.theory.specs.Letters.{words_of}
use Rattle.theory.specs.Refusals.{point_limit, text_refusal}
use Rattle.theory.specs.TableRefusals.{check_refusal}
use Rattle.theory.specs.Texts.{list_text}
use Rattle.theory.proofs.RefusalLaws.{alphabet_in}
use Rattle.theory.proofs.TableRefusalLaws.{lent_in, in_lent, text_alphabet}
use Rattle.theory.proofs.ListTexts.{words_of_text, text_fine}
use Rattle.refusals.specs.declared.Refusal.{Refusal}
use Rattle.saves.specs.Saves.{SaveTableOutcome, SaveListOutcome}
use Rattle.saves.proofs.ListLaws.{savable_list}
use Rattle.table_files.specs.TableFiles.{sound}
use Rattle.list_files.specs.ListFiles.{listed}
use Rattle.loads.specs.declared.Loaded.{Loaded}
use Rattle.loads.specs.Loads.{table_met, list_met, file_in, loaded_for, table_after, text_after, LoadOutcome}
use Rattle.accords.proofs.CellsBack.{Fine, fine_check, same_rows}
use Rattle.accords.proofs.TextsBack.{text_of_words}
use Rattle.accords.proofs.SavedFiles.{table_saved, list_saved, table_saves, list_saves}
use Rattle.accords.proofs.HeadsBack.{table_found, list_found, FoundTable, found_table_file, FoundList, found_list_file, table_answer, list_answer, table_said, list_said}

-- ── Tables: saved, then loaded ──

module _ (n N : ℕ) (t out : List ℕ) (k : ℕ) (out' : List ℕ) (h : SaveTableOutcome n N t out (Ok k) out') where
  table_fine : Fine n N t
  table_fine = (table_saved n N t out k out' h).0

  pub saved_table_loads_back : (table text : List ℕ) (r : Result Loaded Refusal) (table' text' : List ℕ) → LoadOutcome (take k out') table text r table' text'
      → N * (2 * n) ≤ length table
      → (r ≡ table_answer n N) × (take (N * (2 * n)) table' ≡ take (N * (2 * n)) t)
      × (drop (N * (2 * n)) table' ≡ drop (N * (2 * n)) table) × (text' ≡ text)
  saved_table_loads_back table text r table' text' l room = (
    l.answer ∙ ap loaded_for found,
    ap (take (N * (2 * n))) cells ∙ take_at rows (drop (length rows) table) (N * (2 * n)) many,
    ap (drop (N * (2 * n))) cells ∙ drop_at rows (drop (length rows) table) (N * (2 * n)) many ∙ ap (λ i. drop i table) many,
    l.bytes ∙ ap (text_after text) found,
  )
    where
      rows : List ℕ
      rows = take (N * (2 * n)) t

      found : file_in (length table) (length text) (take k out') ≡ table_met n (sound N rows)
      found = ap (file_in (length table) (length text)) (table_saved n N t out k out' h).1 ∙ table_found n N t (length table) (length text) table_fine room

      cells : table' ≡ rows ++ drop (length rows) table
      cells = l.cells ∙ ap (table_after table) found

      many : length rows ≡ N * (2 * n)
      many = length-take-le (N * (2 * n)) t table_fine.lent.2

-- ── Tables: loaded, then saved ──

module _ (file table text : List ℕ) (n N : ℕ) (table' text' : List ℕ) (l : LoadOutcome file table text (table_answer n N) table' text') where
  -- the table that was found, and the cells that it left
  record Loads : Type 0 where
    t : List ℕ
    found : FoundTable (length table) file n N t
    cells : table' ≡ t ++ drop (length t) table

  loads : Loads
  loads =
      let s = table_said n N (file_in (length table) (length text) file) l.answer in
      record {
        t = s.0;
        found = found_table_file (length table) (length text) file n N s.0 s.1;
        cells = l.cells ∙ ap (table_after table) s.1;
      }

  -- the rows of what was found are all of it
  again : take (N * (2 * n)) loads.t ≡ loads.t
  again = ap (λ i. take i loads.t) (sym loads.found.stands.rows) ∙ take-length loads.t

  loaded_rows : take (N * (2 * n)) table' ≡ loads.t
  loaded_rows =
      ap (take (N * (2 * n))) loads.cells
      ∙ take_at loads.t (drop (length loads.t) table) (N * (2 * n)) loads.found.stands.rows

  -- the file is that of the table as it was left
  loaded_file : file ≡ table_file n N table'
  unfolding table_file
  loaded_file = loads.found.whole ∙ ap (λ m. numbers_bytes (1 ∷ n ∷ N ∷ map cell_number m)) (again ∙ sym loaded_rows)

  -- and the table as it was left is not refused
  loaded_fine : check_refusal n N table' ≡ none
  loaded_fine =
      fine_check n N table' loads.found.alphabet (in_lent n N (length table') lent.0 lent.1 room)
      (same_rows n N table' loads.t (loaded_rows ∙ sym again) ∙ loads.found.stands.clear)
    where
      lent : (1 ≤ N) × (N ≤ point_limit) × (N * (2 * n) ≤ length table)
      lent = lent_in n N (length table) loads.found.stands.lent

      room : N * (2 * n) ≤ length table'
      room =
          omega (
            arith,
            loads.found.stands.rows,
            ap length loads.cells,
            length-append loads.t (drop (length loads.t) table),
          )

  pub table_file_saves_back : (out : List ℕ) (k : ℕ) (out' : List ℕ) → SaveTableOutcome n N table' out (Ok k) out' → take k out' ≡ file
  table_file_saves_back out k out' h = (table_saved n N table' out k out' h).1 ∙ sym loaded_file

  pub table_file_can_be_saved : (out : List ℕ) (r : Result ℕ Refusal) (out' : List ℕ) → SaveTableOutcome n N table' out r out' → length file ≤ length out
      → (r ≡ Ok (length file)) × (take (length file) out' ≡ file)
  table_file_can_be_saved out r out' h room =
      subst (λ f. (r ≡ Ok (length f)) × (take (length f) out' ≡ f)) (sym loaded_file)
      (table_saves n N table' out r out' h loaded_fine (subst (λ f. length f ≤ length out) loaded_file room))

pub table_files_one : (file table text : List ℕ) (n N : ℕ) (table' text' : List ℕ) → LoadOutcome file table text (table_answer n N) table' text'
    → (other room rest room' rest' : List ℕ) → LoadOutcome other room rest (table_answer n N) room' rest'
    → take (N * (2 * n)) table' ≡ take (N * (2 * n)) room' → file ≡ other
unfolding table_file
table_files_one file table text n N table' text' l other room rest room' rest' m e =
    loaded_file file table text n N table' text' l
    ∙ ap (λ c. numbers_bytes (1 ∷ n ∷ N ∷ map cell_number c)) e
    ∙ sym (loaded_file other room rest n N room' rest' m)

-- ── Lists: saved, then loaded ──

module _ (n : ℕ) (list out : List ℕ) (k : ℕ) (out' : List ℕ) (h : SaveListOutcome n list out (Ok k) out') where
  list_fine : text_refusal n true list ≡ none
  list_fine = (list_saved n list out k out' h).0

  pub saved_list_loads_back : (table text : List ℕ) (r : Result Loaded Refusal) (table' text' : List ℕ) → LoadOutcome (take k out') table text r table' text'
      → length list ≤ length text
      → (r ≡ list_answer n (length (words_of list)) (length list)) × (take (length list) text' ≡ list)
      × (drop (length list) text' ≡ drop (length list) text) × (table' ≡ table)
  saved_list_loads_back table text r table' text' l room = (
    l.answer ∙ ap loaded_for found ∙ ap (λ b. list_answer n (length (words_of list)) (length b)) same,
    ap (take (length list)) bytes ∙ take_at list (drop (length list) text) (length list) refl,
    ap (drop (length list)) bytes ∙ drop_at list (drop (length list) text) (length list) refl,
    l.cells ∙ ap (table_after table) found,
  )
    where
      same : list_text (words_of list) ≡ list
      same = (text_of_words n list list_fine).0

      found : file_in (length table) (length text) (take k out') ≡ list_met n (listed (words_of list))
      found =
          ap (file_in (length table) (length text)) (list_saved n list out k out' h).1
          ∙ list_found n (words_of list) (length table) (length text) (text_alphabet n true list list_fine) (text_of_words n list list_fine).1
          (omega (arith, ap length same, (savable_list n list list_fine).1)) (omega (arith, ap length same, room))

      bytes : text' ≡ list ++ drop (length list) text
      bytes = l.bytes ∙ ap (text_after text) found ∙ ap (λ b. b ++ drop (length b) text) same

-- ── Lists: loaded, then saved ──

module _ (file table text : List ℕ) (n words bytes : ℕ) (table' text' : List ℕ)
    (l : LoadOutcome file table text (list_answer n words bytes) table' text') where
  -- the words that were found, and the text that they left
  record Lists : Type 0 where
    ws : List (List ℕ)
    found : FoundList (length text) file n ws
    text_read : take bytes text' ≡ list_text ws

  lists : Lists
  lists =
      let s = list_said n words bytes (file_in (length table) (length text) file) l.answer in
      record {
        ws = s.0;
        found = found_list_file (length table) (length text) file n s.0 s.1;
        text_read =
            ap (take bytes) (l.bytes ∙ ap (text_after text) s.1)
            ∙ take_at (list_text s.0) (drop (length (list_text s.0)) text) bytes (sym s.3);
      }

  -- the words of the text read are those that were found
  loaded_words : words_of (take bytes text') ≡ lists.ws
  loaded_words =
      ap words_of lists.text_read
      ∙ words_of_text (2 * n) lists.ws (omega (arith, (alphabet_in n lists.found.alphabet).1)) lists.found.stands.below

  -- the file is that of the text read
  loaded_list : file ≡ list_file n (words_of (take bytes text'))
  loaded_list = lists.found.whole ∙ ap (list_file n) (sym loaded_words)

  -- and the text read is not refused
  text_unrefused : text_refusal n true (take bytes text') ≡ none
  text_unrefused =
      ap (text_refusal n true) lists.text_read
      ∙ text_fine n lists.ws lists.found.alphabet lists.found.stands.below lists.found.stands.short

  pub list_file_saves_back : (out : List ℕ) (k : ℕ) (out' : List ℕ) → SaveListOutcome n (take bytes text') out (Ok k) out' → take k out' ≡ file
  list_file_saves_back out k out' h = (list_saved n (take bytes text') out k out' h).1 ∙ sym loaded_list

  pub list_file_can_be_saved : (out : List ℕ) (r : Result ℕ Refusal) (out' : List ℕ) → SaveListOutcome n (take bytes text') out r out' → length file ≤ length out
      → (r ≡ Ok (length file)) × (take (length file) out' ≡ file)
  list_file_can_be_saved out r out' h room =
      subst (λ f. (r ≡ Ok (length f)) × (take (length f) out' ≡ f)) (sym loaded_list)
      (list_saves n (take bytes text') out r out' h text_unrefused (subst (λ f. length f ≤ length out) loaded_list room))

pub list_files_one : (file table text : List ℕ) (n words bytes : ℕ) (table' text' : List ℕ)
    → LoadOutcome file table text (list_answer n words bytes) table' text'
    → (other room rest : List ℕ) (more size : ℕ) (room' rest' : List ℕ) → LoadOutcome other room rest (list_answer n more size) room' rest'
    → take bytes text' ≡ take size rest' → file ≡ other
list_files_one file table text n words bytes table' text' l other room rest more size room' rest' m e =
    loaded_list file table text n words bytes table' text' l
    ∙ ap (λ b. list_file n (words_of b)) e
    ∙ sym (loaded_list other room rest n more size room' rest' m)
