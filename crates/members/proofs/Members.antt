-- What `member` says of a query on the table of a list of words (document 01).
--   member_exact : of a query that is not refused, Ok true exactly if it is a member
-- Assumes nothing.
use mathlib.Core.Path.{◌≡◌, sym, ◌∙◌, ap}
use mathlib.Core.Bool.{true}
use mathlib.Core.Logic.{◌↔◌}
use mathlib.Core.Option.{none}
use mathlib.Core.List.{List}
use Prim.Native.Nat.{ℕ}
use Rattle.std.specs.declared.result.Result.TheVariants.{Ok}
use Rattle.theory.specs.Words.{Member}
use Rattle.theory.specs.Tables.{cell, is_accepted}
use Rattle.theory.specs.TableRefusals.{member_refusal}
use Rattle.theory.specs.Subgroups.{TableOf}
use Rattle.theory.proofs.Main.{member_iff_reads_back}
use Rattle.refusals.proofs.UnlessLaws.{unless_ok, ok_unless}
use Rattle.members.specs.Members.{query_word, answer_as}

pub member_exact : {n N : ℕ} {t : List ℕ} {ws : List (List ℕ)} → TableOf n N t ws → (query : List ℕ) (room : ℕ)
    → member_refusal n N t query room ≡ none → (answer_as n N t query room ≡ Ok true) ↔ Member ws (query_word query)
unfolding answer_as
member_exact {n} {N} {t} {ws} T query room e = (
  λ a. exact.0 (sym (unless_ok (member_refusal n N t query room) (is_accepted (cell n N t) (query_word query)) (sym a)).1),
  λ m. sym (ok_unless (member_refusal n N t query room) (is_accepted (cell n N t) (query_word query)) e) ∙ ap Ok (exact.1 m),
)
  where
    exact : (is_accepted (cell n N t) (query_word query) ≡ true) ↔ Member ws (query_word query)
    exact = member_iff_reads_back T (query_word query)
