-- The length of a word, then its letters (SkipTurn).
-- Assumes nothing.
use native.Mathlib.Omega.{arith}
use Rattle.std.proofs.lemmas.Result.{err_from_is_err_and}
use Rattle.theory.proofs.RefusalLaws.{alphabet_in}
use Rattle.list_files.proofs.SkipTurn.{word_missing, word_inside, word_broken, word_passed}
use Rattle.list_files.proofs.skip_word.Goals as goal

pub returns-in_err-number : goal.returns-in_err-number
returns-in_err-number c =
    let p = err_from_is_err_and c.from_residual.result c.from_residual.ensures.1 in
    record { passed = rw (p.1, p.2) (word_missing _ _ _ c.in_err-number.ensures.number) }

pub overflow_mul-n : goal.overflow_mul-n
overflow_mul-n c = omega (arith, (alphabet_in _ c.requires.0).1)

pub skip-requires : goal.skip-requires
skip-requires c = (word_inside _ _ c.in_ok-number.number c.in_ok-number.ensures.number c.requires.1).1

pub returns-in_err-place : goal.returns-in_err-place
returns-in_err-place c =
    let p = err_from_is_err_and c.from_residual-in_err-place.result c.from_residual-in_err-place.ensures.1 in
    record { passed = rw (p.1, p.2) (word_broken _ _ _ c.in_ok-number.number c.in_ok-number.ensures.number c.in_err-place.ensures.skipped) }

pub returns : goal.returns
returns c =
    record { passed = word_passed _ _ _ c.in_ok-number.number c.in_ok-number.ensures.number c.requires.1 c.in_ok-place.ensures.skipped }
