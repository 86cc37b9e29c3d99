-- What is known of a table once it is tested, and what the tests answer.
--   IsLent n N t       <-> n is 1 to 26, the points are 1 to 1,048,577, and the table has their cells
--   lent_refusal n N t == the first of 1 and 6 that applies: none of them exactly if the table is lent so (`proofs/LentLaws`)
--   verdict r          == an answer but for its value: no refusal, or which
-- Assumes nothing.
use Rattle.std.specs.Prelude.{not, List, ℕ, ◌*◌, ◌≤◌, length, ⊤}
use Rattle.std.proofs.Math.Option.{Option}
use Rattle.std.specs.declared.result.Result.{Result}
use Rattle.std.specs.declared.result.Result.TheVariants.{Ok, Err}
use Rattle.theory.specs.Refusals.{Refusal as FirstCause, point_limit, is_alphabet, or_else, refused_if}
use Rattle.theory.specs.TableRefusals.{is_lent}
use Rattle.refusals.specs.declared.Refusal.{Refusal}

pub record IsLent (n N : ℕ) (t : List ℕ) : Type 0 where
  pub lettered : 1 ≤ n
  pub letters : n ≤ 26
  pub based : 1 ≤ N
  pub points : N ≤ point_limit
  pub cells : N * (2 * n) ≤ length t

abbrev pub lent_refusal : ℕ → ℕ → List ℕ → Option FirstCause
lent_refusal n N t = or_else (refused_if (not (is_alphabet n)) 1 0) (refused_if (not (is_lent n N (length t))) 6 0)

abbrev pub verdict : {A : Type 0} → Result A Refusal → Result ⊤ Refusal
verdict (Ok a) = Ok tt
verdict (Err r) = Err r
