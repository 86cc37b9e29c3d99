-- Each function that refuses gives a cause at a place exactly if its number there is the first cause that applies (document 01), at the level of
-- the answer; `fold`, `ask`, `basis` and `load` have the same in their own crates.
--   check_refused, equal_refused, member_refused, normal_refused, express_refused : on lent tables
--   scan_refused, save_table_refused, save_list_refused : of texts and of files written
-- Assumes nothing.
use mathlib.Core.Path.{◌≡◌, refl}
use mathlib.Core.Bool.{Bool}
use mathlib.Core.Logic.{⊎_elim, ◌↔◌}
use mathlib.Core.List.{List}
use Prim.Native.Nat.{ℕ}
use lib.IntN.{ℤ}
use lib.ListN.{length}
use Rattle.std.specs.Prelude.{⊤}
use Rattle.std.specs.declared.option.Option.{Option as Maybe}
use Rattle.std.specs.declared.result.Result.{Result}
use Rattle.std.specs.declared.result.Result.TheVariants.{Err}
use Rattle.theory.specs.Refusals.{First, TextCause, text_refusal}
use Rattle.theory.specs.TableRefusals.{CheckCause, MemberCause, EqualCause, check_refusal, member_refusal, equal_refusal}
use Rattle.theory.proofs.RefusalLaws.{refusal_first, first_refusal}
use Rattle.theory.proofs.TableRefusalLaws.{check_refusal_first, member_refusal_first, equal_refusal_first}
use Rattle.refusals.specs.declared.Cause.{Cause}
use Rattle.refusals.specs.declared.Refusal.{Refusal}
use Rattle.refusals.specs.Given.{number_of, refusal_at, unless}
use Rattle.refusals.proofs.NumberLaws.{Numbered, numbered_text}
use Rattle.tables.specs.Checks.{figures_as, checked_as, CheckOutcome}
use Rattle.tables.specs.declared.Figures.{Figures}
use Rattle.members.specs.Members.{answer_as, MemberOutcome}
use Rattle.equals.specs.Equals.{equal_as, EqualOutcome}
use Rattle.bases.proofs.AnswerLaws.{answered_first}
use Rattle.normals.specs.Normals.{NormalCause, normal_refusal, NormalOutcome}
use Rattle.normals.proofs.AnswerLaws.{normal_refusal_first}
use Rattle.expressions.specs.Expressions.{ExpressCause, express_refusal, ExpressOutcome}
use Rattle.expressions.proofs.Refusals.{express_refusal_first}
use Rattle.saves.specs.Saves.{SaveTableCause, save_table_refusal, SaveTableOutcome, SaveListCause, save_list_refusal, SaveListOutcome}
use Rattle.saves.proofs.CauseLaws.{save_table_refusal_first, save_list_refusal_first}

-- a number that is a literal one
one : (k : ℕ) {j : ℕ} → Numbered k → j ≡ k → Numbered j
one k n e = rw e n

-- ── Numbers ──

check_numbered : (n N : ℕ) (t : List ℕ) (k p : ℕ) → CheckCause n N t k p → Numbered k
check_numbered n N t k p c = ⊎_elim (λ x. one 1 refl x.0) (⊎_elim (λ x. one 6 refl x.0) (λ x. one 8 refl x.0)) c

member_numbered : (n N : ℕ) (t query : List ℕ) (room k p : ℕ) → MemberCause n N t query room k p → Numbered k
member_numbered n N t query room k p c =
    ⊎_elim (numbered_text _ _ _ k p) (⊎_elim (λ x. one 6 refl x.0) (⊎_elim (λ x. one 7 refl x.0) (λ x. one 8 refl x.0))) c

equal_numbered : (n N : ℕ) (t : List ℕ) (m M : ℕ) (s : List ℕ) (k p : ℕ) → EqualCause n N t m M s k p → Numbered k
equal_numbered n N t m M s k p c = ⊎_elim (λ x. one 1 refl x.0) (⊎_elim (λ x. one 6 refl x.0) (λ x. one 8 refl x.0)) c

normal_numbered : (n N : ℕ) (t : List ℕ) (room k p : ℕ) → NormalCause n N t room k p → Numbered k
normal_numbered n N t room k p c = ⊎_elim (λ x. one 1 refl x.0) (⊎_elim (λ x. one 6 refl x.0) (⊎_elim (λ x. one 7 refl x.0) (λ x. one 8 refl x.0))) c

express_numbered : (n N : ℕ) (t query : List ℕ) (room space k p : ℕ) → ExpressCause n N t query room space k p → Numbered k
express_numbered n N t query room space k p c = ⊎_elim (member_numbered n N t query room k p) (λ x. one 9 refl x.0) c

-- ── Lent tables ──

module _ (n N : ℕ) (t : List ℕ) where
  pub check_refused : {r : Result Figures Refusal} → CheckOutcome n N t r → (cause : Cause) (p : ℕ)
      → (r ≡ Err (refusal_at cause p)) ↔ First (CheckCause n N t) (number_of cause) p
  unfolding checked_as
  check_refused h = answered_first (CheckCause n N t) (check_refusal n N t) (figures_as n N t) (check_refusal_first n N t) (check_numbered n N t) h

  pub equal_refused : (m M : ℕ) (s : List ℕ) {r : Result Bool Refusal} → EqualOutcome n N t m M s r → (cause : Cause) (p : ℕ)
      → (r ≡ Err (refusal_at cause p)) ↔ First (EqualCause n N t m M s) (number_of cause) p
  unfolding equal_as
  equal_refused m M s h = answered_first (EqualCause n N t m M s) (equal_refusal n N t m M s) _ (equal_refusal_first n N t m M s) (equal_numbered n N t m M s) h

  module _ (work : List ℕ) where
    pub member_refused : (query : List ℕ) {r : Result Bool Refusal} {after : List ℕ} → MemberOutcome n N t query work r after → (cause : Cause) (p : ℕ)
        → (r ≡ Err (refusal_at cause p)) ↔ First (MemberCause n N t query (length work)) (number_of cause) p
    unfolding answer_as
    member_refused query h =
        answered_first (MemberCause n N t query (length work)) (member_refusal n N t query (length work)) _
        (member_refusal_first n N t query (length work)) (member_numbered n N t query (length work)) h.answer

    pub normal_refused : {r : Result Bool Refusal} {after : List ℕ} → NormalOutcome n N t work r after → (cause : Cause) (p : ℕ)
        → (r ≡ Err (refusal_at cause p)) ↔ First (NormalCause n N t (length work)) (number_of cause) p
    normal_refused h =
        answered_first (NormalCause n N t (length work)) (normal_refusal n N t (length work)) _
        (normal_refusal_first n N t (length work)) (normal_numbered n N t (length work)) h.answer

    pub express_refused : (query : List ℕ) (out : List ℤ) {r : Result (Maybe ℕ) Refusal} {work' : List ℕ} {out' : List ℤ}
        → ExpressOutcome n N t query work out r work' out' → (cause : Cause) (p : ℕ)
        → (r ≡ Err (refusal_at cause p)) ↔ First (ExpressCause n N t query (length work) (length out)) (number_of cause) p
    express_refused query out h =
        answered_first (ExpressCause n N t query (length work) (length out)) (express_refusal n N t query (length work) (length out)) _
        (express_refusal_first n N t query (length work) (length out)) (express_numbered n N t query (length work) (length out)) h.answer

-- ── Texts and files ──

pub scan_refused : (n : ℕ) (lines : Bool) (text : List ℕ) {r : Result ⊤ Refusal} → r ≡ unless (text_refusal n lines text) tt → (cause : Cause) (p : ℕ)
    → (r ≡ Err (refusal_at cause p)) ↔ First (TextCause n lines text) (number_of cause) p
scan_refused n lines text h =
    answered_first (TextCause n lines text) (text_refusal n lines text) tt
    (λ k p. (refusal_first n lines text (record { number = k; place = p }), first_refusal n lines text k p)) (numbered_text n lines text) h

pub save_table_refused : (n N : ℕ) (t out : List ℕ) {r : Result ℕ Refusal} {after : List ℕ} → SaveTableOutcome n N t out r after → (cause : Cause) (p : ℕ)
    → (r ≡ Err (refusal_at cause p)) ↔ First (SaveTableCause n N t (length out)) (number_of cause) p
save_table_refused n N t out h =
    answered_first (SaveTableCause n N t (length out)) (save_table_refusal n N t (length out)) _ (save_table_refusal_first n N t (length out))
    (λ k p c. ⊎_elim (check_numbered n N t k p) (λ x. one 9 refl x.0) c) h.answer

pub save_list_refused : (n : ℕ) (list out : List ℕ) {r : Result ℕ Refusal} {after : List ℕ} → SaveListOutcome n list out r after → (cause : Cause) (p : ℕ)
    → (r ≡ Err (refusal_at cause p)) ↔ First (SaveListCause n list (length out)) (number_of cause) p
save_list_refused n list out h =
    answered_first (SaveListCause n list (length out)) (save_list_refusal n list (length out)) _ (save_list_refusal_first n list (length out))
    (λ k p c. ⊎_elim (numbered_text _ _ _ k p) (λ x. one 9 refl x.0) c) h.answer
