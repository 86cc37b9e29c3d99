-- Which refusal `express` gives (document 01's order).
--   express_refusal_first : a number at a place exactly if that is the first cause that applies
--   express_refusal_none  : none exactly if no cause applies
-- Assumes nothing.
use mathlib.Core.Path.{◌≡◌, refl, ap}
use mathlib.Core.Logic.{⊎_elim, ◌↔◌}
use mathlib.Core.Bool.{false, ◌&&◌}
use mathlib.Core.Option.{none, some}
use mathlib.Core.List.{List}
use Prim.Native.Nat.{ℕ}
use native.Mathlib.Omega.{arith}
use lib.Dec.{ltb}
use lib.ListN.{length}
use borrow.Author.Tests.{lt-ltb, ltb-true}
use Rattle.theory.specs.Refusals.{turn, First}
use Rattle.theory.specs.Tables.{cell}
use Rattle.theory.proofs.RefusalLaws.{and_true, text_turn}
use Rattle.theory.proofs.ReadLaws.{is_accepted_sound, is_accepted_complete}
use Rattle.theory.proofs.TableRefusalLaws.{Decides, decided_first, decided_none, join, only_if, member_decides}
use Rattle.members.specs.Members.{query_word}
use Rattle.expressions.specs.Expressions.{is_inside, numbers_of, ExpressCause, express_refusal}

module _ (n N : ℕ) (t query : List ℕ) (room space : ℕ) where
  express_decides : Decides (ExpressCause n N t query room space) (express_refusal n N t query room space)
  unfolding express_refusal
  express_decides =
      join (λ k p l q a b. ⊎_elim (λ x. omega (arith, text_turn n false query k p x, ap turn b.0))
      (⊎_elim (λ x. omega (arith, ap turn x.0, ap turn b.0))
      (⊎_elim (λ x. omega (arith, ap turn x.0, ap turn b.0)) (λ x. omega (arith, ap turn x.0, ap turn b.0)))) a)
      (member_decides n N t query room)
      (λ _. only_if 9 (is_inside n N t query && ltb space (length (numbers_of n N t query))) (length (numbers_of n N t query))
      (λ e. let a = and_true (is_inside n N t query) (ltb space (length (numbers_of n N t query))) e in
      (is_accepted_sound (cell n N t) (query_word query) a.0, (refl, ltb-true space (length (numbers_of n N t query)) a.1)))
      (λ q x. (rw (is_accepted_complete (cell n N t) (query_word query) x.0, lt-ltb space (length (numbers_of n N t query)) x.1.1), x.1.0)))

  pub express_refusal_first : (k p : ℕ)
      → (express_refusal n N t query room space ≡ some (record { number = k; place = p })) ↔ First (ExpressCause n N t query room space) k p
  express_refusal_first = decided_first express_decides

  pub express_refusal_none : (express_refusal n N t query room space ≡ none) ↔ ((k p : ℕ) → ExpressCause n N t query room space k p → ⊥)
  express_refusal_none = decided_none express_decides
