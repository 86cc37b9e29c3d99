-- Wrong programs that have no place in the code: for each an outcome that does not conform, on the files of `Loads`.
--   refuse_all : not every file is refused
--   table_left : a table that is loaded is not left as it was
--   text_left  : nor is the text of a list
-- Assumes nothing.
use mathlib.Core.Path.{◌≡◌, ◌∙◌, ap}
use mathlib.Core.Bool.{true≢false}
use mathlib.Core.List.{List, []}
use Prim.Native.Nat.{ℕ}
use native.Mathlib.Omega.{arith}
use lib.ListN.{get_or, replicate}
use Rattle.theory.specs.Texts.{bytes_from, list_text}
use Rattle.std.specs.declared.result.Result.{Result}
use Rattle.std.specs.declared.result.Result.TheVariants.{Ok, Err}
use Rattle.refusals.specs.declared.Refusal.{Refusal}
use Rattle.loads.specs.declared.Loaded.{Loaded}
use Rattle.loads.specs.Loads.{loaded_for, table_after, text_after, LoadOutcome}
use Rattle.loads.proofs.Loads.{table_file_here, list_file_here, table_here_lem, list_here, text_here}

-- buffers with something in them
abbrev cells : List ℕ
cells = replicate 8 777

abbrev room : List ℕ
room = replicate 5 0

pub refuse_all : (r : Refusal) (table' text' : List ℕ) → LoadOutcome table_file_here cells [] (Err r) table' text' → ⊥
refuse_all r table' text' h = apart (h.answer ∙ ap loaded_for table_here_lem)
  where
    apart : {a : Loaded} → Err r ≡ Ok a → ⊥
    apart e = true≢false cc

pub table_left : (r : Result Loaded Refusal) (text' : List ℕ) → LoadOutcome table_file_here cells [] r cells text' → ⊥
table_left r text' h =
    let e = h.cells ∙ ap (table_after cells) table_here_lem in
    let z : ◌≡◌ {A = ℕ} 777 1 = ap (λ l. get_or l 0 0) e in omega arith

pub text_left : (r : Result Loaded Refusal) (table' : List ℕ) → LoadOutcome list_file_here [] room r table' room → ⊥
unfolding bytes_from list_text
text_left r table' h =
    let e = h.bytes ∙ ap (text_after room) list_here in
    let z : ◌≡◌ {A = ℕ} 0 97 = ap (λ l. get_or l 0 0) e ∙ ap (λ l. get_or l 0 0) text_here in omega arith
