-- The computed refusals of saving are the first causes that apply (`specs/Saves`).
--   save_table_refusal_first : it is number k at place p exactly if that is the first cause
--   save_table_refusal_none  : it is none exactly if no cause applies
--   save_list_refusal_first, save_list_refusal_none : the same of a list
-- Assumes nothing.
use mathlib.Core.Path.{◌≡◌, refl, sym, ◌∙◌, ap}
use mathlib.Core.Logic.{⊎_elim, ◌↔◌}
use mathlib.Core.Bool.{true}
use mathlib.Core.Option.{Option, none, some}
use mathlib.Core.List.{List}
use Prim.Native.Nat.{ℕ}
use native.Mathlib.Omega.{arith}
use lib.Dec.{ltb}
use lib.ListN.{length}
use borrow.Author.Tests.{ltb-true, lt-ltb}
use Rattle.theory.specs.Files.{table_file, list_file}
use Rattle.theory.specs.Letters.{words_of}
use Rattle.theory.specs.Refusals.{Refusal, CauseShort, turn, First, Only}
use Rattle.theory.specs.TableRefusals.{CheckCause, check_refusal}
use Rattle.theory.proofs.RefusalLaws.{some_number, text_turn}
use Rattle.theory.proofs.TableRefusalLaws.{Verdict, Decides, decided_first, decided_none, join, only_if, text_decides, check_refusal_first, check_refusal_none}
use Rattle.saves.specs.Saves.{short_refusal, SaveTableCause, save_table_refusal, SaveListCause, save_list_refusal}

-- 9
short_decides : (file : List ℕ) (room : ℕ) → Decides (Only 9 (CauseShort (length file) room)) (short_refusal file room)
unfolding short_refusal
short_decides file room =
    only_if 9 (ltb room (length file)) (length file) (λ e. (refl, ltb-true room (length file) e))
    (λ q c. (lt-ltb room (length file) c.1, c.0))

-- ── Tables ──

module _ (n N : ℕ) (t : List ℕ) where
  check_decided : Decides (CheckCause n N t) (check_refusal n N t)
  check_decided =
      record {
        verdict = go (check_refusal n N t) refl;
        one = λ k l p f g.
            (some_number k l p p (sym ((check_refusal_first n N t k p).1 f) ∙ (check_refusal_first n N t l p).1 g)).0;
      }
    where
      go : (o : Option Refusal) → check_refusal n N t ≡ o → Verdict (CheckCause n N t) o
      go none e = (check_refusal_none n N t).0 e
      go (some r) e = (check_refusal_first n N t r.number r.place).0 e

  module _ (room : ℕ) where
    table_decides : Decides (SaveTableCause n N t room) (save_table_refusal n N t room)
    unfolding save_table_refusal
    table_decides =
        join (λ k p l q a b.
        ⊎_elim (λ x. omega (arith, ap turn x.0, ap turn b.0))
        (⊎_elim (λ x. omega (arith, ap turn x.0, ap turn b.0)) (λ x. omega (arith, ap turn x.0, ap turn b.0))) a)
        check_decided (λ _. short_decides (table_file n N t) room)

    pub save_table_refusal_first : (k p : ℕ)
        → (save_table_refusal n N t room ≡ some (record { number = k; place = p })) ↔ First (SaveTableCause n N t room) k p
    save_table_refusal_first = decided_first table_decides

    pub save_table_refusal_none : (save_table_refusal n N t room ≡ none) ↔ ((k p : ℕ) → SaveTableCause n N t room k p → ⊥)
    save_table_refusal_none = decided_none table_decides

-- ── Lists ──

module _ (n : ℕ) (list : List ℕ) (room : ℕ) where
  list_decides : Decides (SaveListCause n list room) (save_list_refusal n list room)
  unfolding save_list_refusal
  list_decides =
      join (λ k p l q a b. let h = text_turn n true list k p a in omega (arith, ap turn b.0)) (text_decides n true list)
      (λ _. short_decides (list_file n (words_of list)) room)

  pub save_list_refusal_first : (k p : ℕ)
      → (save_list_refusal n list room ≡ some (record { number = k; place = p })) ↔ First (SaveListCause n list room) k p
  save_list_refusal_first = decided_first list_decides

  pub save_list_refusal_none : (save_list_refusal n list room ≡ none) ↔ ((k p : ℕ) → SaveListCause n list room k p → ⊥)
  save_list_refusal_none = decided_none list_decides
