-- Wrong programs that have no place in the code: for each an input on which its outcome does not conform.
--   refuse_all      : not every list is refused (the empty list)
--   refuse_nothing  : nor none (n = 0)
--   table_untouched : nor is the table left as it was; work_untouched : nor the work (the empty list, cells of 777)
--   rows_left       : nor are rows behind the table left as they were (a)
--   one_table       : nor is every list given the table without edges (a)
--   first_word      : nor the table of its first word (a and b)
--   base_trimmed    : nor does the base go where it has one cell (abA, given the table of b)
--   invented_folds  : the folds are counted (bb and bbb: 3 merging, 1 closing)
--   rank_as_given   : the rank is not the number of words given (ab twice: 1)
-- `fails` and `admits`: an outcome that fails a member, or admits another word, does not conform. Assumes nothing.
use mathlib.Core.Path.{◌≡◌, refl, sym, ◌∙◌, ap}
use mathlib.Core.Logic.{inl}
use mathlib.Core.Bool.{true, false, true≢false}
use mathlib.Core.Option.{none}
use mathlib.Core.List.{List, [], ◌∷◌}
use Prim.Native.Nat.{ℕ, ◌<◌}
use native.Mathlib.Omega.{arith}
use lib.IntN.{pos}
use lib.ListN.{length, get_or, replicate}
use Rattle.std.specs.declared.result.Result.TheVariants.{Ok, Err}
use Rattle.theory.specs.Words.{inv, put, reduced_by, named, product, Member}
use Rattle.theory.specs.Letters.{letter_bytes, place_in, letter_of, on_first, words_of, letters_in}
use Rattle.theory.specs.Refusals.{is_alphabet, bytes_refusal, is_unended, text_refusal}
use Rattle.theory.specs.Tables.{absent, cell, end_of, is_accepted}
use Rattle.theory.specs.Graphs.{non_empty_words}
use Rattle.theory.specs.Texts.{bytes_from, bytes, word}
use Rattle.cases.specs.Cases.{two_and_three, twice, hair_at_base}
use Rattle.cases.proofs.ExamplesHold.{examples_hold}
use Rattle.cells.specs.Filled.{filled}
use Rattle.refusals.specs.declared.Refusal.{Refusal}
use Rattle.folds.specs.declared.FoldFigures.{FoldFigures}
use Rattle.folds.specs.Causes.{lent_refusal, fold_refusal}
use Rattle.folds.specs.Folds.{FoldOutcome}
use Rattle.folds.proofs.CauseLaws.{fold_refusal_none}
use Rattle.folds.proofs.Folds.{made_done, every_list_folds, fold_exact, fold_counts_are_folds}

-- ── Refusals and buffers ──

-- the empty list over two generators, with just the cells that it needs
bare_fine : fold_refusal 2 [] 4 8 ≡ none
unfolding fold_refusal lent_refusal text_refusal is_alphabet bytes_refusal is_unended letters_in
bare_fine = refl

pub refuse_all : (r : Refusal) (table' work' : List ℕ)
    → FoldOutcome 2 [] (replicate 4 777) (replicate 8 777) (Err r) table' work' → ⊥
refuse_all r table' work' h =
    let e = (every_list_folds 2 [] (replicate 4 777) (replicate 8 777) (Err r) table' work' h bare_fine).1 in
    let z : ◌≡◌ {A = ℕ} 0 1 = cc in omega arith

pub refuse_nothing : (table work : List ℕ) (f : FoldFigures) (table' work' : List ℕ)
    → FoldOutcome 0 [] table work (Ok f) table' work' → ⊥
refuse_nothing table work f table' work' h =
    let e = (made_done 0 [] table work f table' work' h).0 in
    (fold_refusal_none 0 [] (length table) (length work)).0 e 1 0 (inl (refl, λ a. omega (arith, a.0)))

pub table_untouched : (work : List ℕ) (f : FoldFigures) (work' : List ℕ)
    → FoldOutcome 1 [] (777 ∷ 777 ∷ []) work (Ok f) (777 ∷ 777 ∷ []) work' → ⊥
unfolding letters_in cell
table_untouched work f work' h =
    let d = (made_done 1 [] (777 ∷ 777 ∷ []) work f (777 ∷ 777 ∷ []) work' h).1 in
    let one : f.points ≡ 1 = omega (arith, d.subgroup.based, d.cleared.used) in
    let low : 777 < f.points = d.subgroup.canonical.within 0 0 777 (rw one, λ e. omega arith) in
    omega (arith, one, low)

pub work_untouched : (table : List ℕ) (f : FoldFigures) (table' : List ℕ)
    → FoldOutcome 1 [] table (replicate 8 777) (Ok f) table' (replicate 8 777) → ⊥
unfolding filled letters_in
work_untouched table f table' h =
    let d = (made_done 1 [] table (replicate 8 777) f table' (replicate 8 777) h).1 in
    let z : ◌≡◌ {A = ℕ} 777 0 = ap (λ l. get_or l 0 0) d.cleared.zeros in
    omega arith

pub rows_left : (table work : List ℕ) (f : FoldFigures) (work' : List ℕ) → f.points ≡ 1
    → FoldOutcome 1 (bytes "a\n") table work (Ok f) (0 ∷ 0 ∷ 777 ∷ 777 ∷ []) work' → ⊥
unfolding letters_in bytes_from
rows_left table work f work' e h =
    let d = (made_done 1 (bytes "a\n") table work f (0 ∷ 0 ∷ 777 ∷ 777 ∷ []) work' h).1 in
    let z : ◌≡◌ {A = ℕ} 777 absent = d.cleared.unused 1 0 (omega arith) (omega arith) (omega arith) in
    omega arith

-- ── Tables ──

module _ (n : ℕ) (list table work : List ℕ) (f : FoldFigures) (table' work' : List ℕ)
    (h : FoldOutcome n list table work (Ok f) table' work') (N : ℕ) (e : f.points ≡ N) (q : List ℕ) where
  fails : Member (words_of list) q → is_accepted (cell n N table') q ≡ false → ⊥
  fails m a =
      true≢false (sym ((fold_exact n list table work f table' work' h q).1 m) ∙ ap (λ k. is_accepted (cell n k table') q) e ∙ a)

  admits : (Member (words_of list) q → ⊥) → is_accepted (cell n N table') q ≡ true → ⊥
  admits out a = out ((fold_exact n list table work f table' work' h q).0 (ap (λ k. is_accepted (cell n k table') q) e ∙ a))

-- the only word of a list, and the second of two, is a member
a_member : Member (words_of (bytes "a\n")) (word "a")
unfolding bytes_from letter_of place_in letter_bytes words_of on_first product named reduced_by put
a_member = record { numbers = pos 1 ∷ []; listed = (omega arith, tt); reduces = refl }

b_member : Member (words_of (bytes "a\nb\n")) (word "b")
unfolding bytes_from letter_of place_in letter_bytes words_of on_first product named reduced_by put
b_member = record { numbers = pos 2 ∷ []; listed = (omega arith, tt); reduces = refl }

pub one_table : (table work : List ℕ) (f : FoldFigures) (work' : List ℕ) → f.points ≡ 1
    → FoldOutcome 1 (bytes "a\n") table work (Ok f) (replicate 4 absent) work' → ⊥
unfolding bytes_from letter_of place_in letter_bytes is_accepted end_of reduced_by put cell
one_table table work f work' e h = fails 1 (bytes "a\n") table work f (replicate 4 absent) work' h 1 e (word "a") a_member refl

-- a loop of a, and nothing in the other rows
abbrev loop : List ℕ
loop = 0 ∷ 0 ∷ replicate 10 absent

pub first_word : (table work : List ℕ) (f : FoldFigures) (work' : List ℕ) → f.points ≡ 1
    → FoldOutcome 2 (bytes "a\nb\n") table work (Ok f) loop work' → ⊥
unfolding bytes_from letter_of place_in letter_bytes is_accepted end_of reduced_by put cell
first_word table work f work' e h = fails 2 (bytes "a\nb\n") table work f loop work' h 1 e (word "b") b_member refl

-- a loop of b, and nothing in the other rows
abbrev other : List ℕ
other = absent ∷ absent ∷ 0 ∷ 0 ∷ replicate 12 absent

pub base_trimmed : (table work : List ℕ) (f : FoldFigures) (work' : List ℕ) → f.points ≡ 1
    → FoldOutcome 2 hair_at_base.text table work (Ok f) other work' → ⊥
unfolding bytes_from letter_of place_in letter_bytes is_accepted end_of reduced_by put cell
base_trimmed table work f work' e h =
    admits 2 hair_at_base.text table work f other work' h 1 e (word "b")
    examples_hold.1.1.1.1.1.1.0.answers.1.0.0 refl

-- ── Figures ──

pub invented_folds : (table work : List ℕ) (f : FoldFigures) (table' work' : List ℕ) → ((f.merging ≡ 3) × (f.closing ≡ 1) → ⊥)
    → FoldOutcome 2 two_and_three.text table work (Ok f) table' work' → ⊥
invented_folds table work f table' work' e h =
    let x = examples_hold.1.1.1.0.folding in
    e ((made_done 2 two_and_three.text table work f table' work' h).1.folds x.0 3 1 x.1)

two_words : non_empty_words (words_of twice.text) ≡ 2
unfolding non_empty_words words_of bytes_from letter_of place_in letter_bytes on_first reduced_by put inv
two_words = refl

pub rank_as_given : (table work : List ℕ) (f : FoldFigures) (table' work' : List ℕ) → f.counts.rank ≡ 2
    → FoldOutcome 2 twice.text table work (Ok f) table' work' → ⊥
rank_as_given table work f table' work' e h =
    let x = examples_hold.1.1.1.1.0.folding in
    let d = (made_done 2 twice.text table work f table' work' h).1.folds x.0 1 1 x.1 in
    omega (arith, e, d.1, (fold_counts_are_folds 2 twice.text table work f table' work' h).1, two_words)
