-- What the parts of `ask` say, on plain values.
--   filled_twice : cells filled twice with one value are filled up to the greater number
--   texts_refused, rows_refused, work_refused : a refusal at a stage of `ask` is the answer
--   rows_asks                                 : a list that is fine has few rows
--   build_asks, answered                      : the outcome of `ask_lent`
-- Assumes nothing.
use mathlib.Core.Path.{◌≡◌, refl, sym, ◌∙◌, ap, subst}
use mathlib.Core.Logic.{inl, inr, by_cases}
use mathlib.Core.Bool.{Bool, true, false, true≢false}
use mathlib.Core.Option.{Option, none}
use mathlib.Core.List.{List, ◌∷◌, ◌++◌}
use Prim.Native.Nat.{ℕ, zero, suc, ◌+◌, ◌*◌, ◌≤◌, ◌<◌, max}
use native.Mathlib.Decide.{dec_lt}
use native.Mathlib.Nat.{mul-le-mul_right}
use native.Mathlib.Omega.{arith}
use lib.Dec.{ltb}
use lib.ListN.{length, drop, replicate}
use borrow.Author.Tests.{le-ltb}
use Rattle.std.specs.Prelude.{⊤}
use Rattle.std.specs.declared.result.Result.{Result}
use Rattle.std.specs.declared.result.Result.TheVariants.{Ok, Err}
use Rattle.theory.specs.Letters.{letters_in, words_of}
use Rattle.theory.specs.Refusals.{Refusal as FirstCause, or_else, refused_if, text_refusal}
use Rattle.theory.specs.TableRefusals.{is_lent, cell_refusal, member_refusal}
use Rattle.theory.specs.Tables.{cell, is_accepted}
use Rattle.theory.proofs.RefusalLaws.{alphabet_in}
use Rattle.theory.proofs.TableRefusalLaws.{text_alphabet, in_lent}
use Rattle.theory.proofs.CanonicalLaws.{table_canonical_none}
use Rattle.theory.proofs.Main.{member_iff_reads_back}
use Rattle.cells.specs.Filled.{filled}
use Rattle.cells.proofs.FillTurn.{length_filled, filled_drop}
use Rattle.refusals.specs.declared.Refusal.{Refusal}
use Rattle.refusals.specs.declared.Cause.TheVariants.{Work}
use Rattle.refusals.specs.Given.{unless, unless_short}
use Rattle.refusals.proofs.UnlessLaws.{unless_ok, unless_err, short_unless}
use Rattle.refusals.proofs.StageLaws.{err_first, ok_next}
use Rattle.members.specs.Members.{query_word, answer_as, cells_for, cells_after, MemberOutcome}
use Rattle.rooms.proofs.UniteLaws.{drop_behind}
use Rattle.folds.specs.Causes.{rows_of, work_of}
use Rattle.folds.specs.Folds.{Cleared}
use Rattle.folds.specs.declared.BuildSize.{BuildSize}
use Rattle.folds.specs.Rows.{Foldable, Built}
use Rattle.folds.proofs.BuildLaws.{rows_few}
use Rattle.asks.specs.Causes.{asked_work, texts_refusal, ask_refusal}
use Rattle.asks.specs.Asks.{Says, Answered, OutcomeFor, AskOutcome, Askable}
use Rattle.asks.proofs.ScanLaws.{texts_fine}
use Rattle.asks.proofs.CauseLaws.{fine_ask}

-- ── Cells filled twice ──

more : (a b v : ℕ) (d : List ℕ) → a ≤ b → replicate a v ++ drop a (replicate b v ++ d) ≡ replicate b v ++ d
more zero b v d h = refl
more (suc a) zero v d h = absurd (omega arith)
more (suc a) (suc b) v d h = ap (λ l. v ∷ l) (more a b v d (omega arith))

pub filled_twice : (a b v : ℕ) (cells : List ℕ) → filled a v (filled b v cells) ≡ filled (max b a) v cells
unfolding filled
filled_twice a b v cells =
    by_cases (dec_lt a b)
    (λ h. more a b v (drop b cells) (omega arith) ∙ ap (λ k. replicate k v ++ drop k cells) (greater h))
    (λ h. ap (λ l. replicate a v ++ l) (drop_behind b a (filled b v cells) cells (omega arith) (filled_drop b v cells))
    ∙ ap (λ k. replicate k v ++ drop k cells) (smaller h))
  where
    greater : a < b → b ≡ max b a
    greater h = omega arith

    smaller : (a < b → ⊥) → a ≡ max b a
    smaller h = omega arith

-- ── Refusals ──

module _ (n : ℕ) (list query table work : List ℕ) where
  -- the stages: the texts, the list's rows, the work cells
  abbrev by_texts : Option FirstCause
  by_texts = texts_refusal n list query

  abbrev by_rows : ℕ → Option FirstCause
  by_rows rows = refused_if (ltb (length table) (rows * (2 * n))) 6 0

  abbrev by_work : Option FirstCause
  by_work = refused_if (ltb (length work) (asked_work list query)) 7 (asked_work list query)

  -- what is said where something is refused
  refused : {r : Refusal} → Err r ≡ unless (ask_refusal n list query (length table) (length work)) (tt {0})
      → AskOutcome n list query table work (Err r) table work
  refused {r} e =
      let q = unless_err (ask_refusal n list query (length table) (length work)) (tt {0}) e in
      subst (λ o. OutcomeFor n list query table work o (Err r) table work) (sym q.1) (ap Err q.2, refl, refl)

  pub texts_refused : {r : Refusal} → Err r ≡ unless by_texts (tt {0}) → AskOutcome n list query table work (Err r) table work
  unfolding ask_refusal
  texts_refused e = refused (err_first by_texts (tt {0}) (tt {0}) (or_else (by_rows (rows_of list)) by_work) e)

  -- the texts are fine: rows and work cells decide
  module _ {u : ⊤} (a : Ok u ≡ unless by_texts (tt {0})) {letters : ℕ} (count : letters ≡ letters_in list) where
    abbrev rows : ℕ
    rows = letters + 1

    is : rows ≡ rows_of list
    is = ap (λ k. k + 1) count

    list_good : text_refusal n true list ≡ none
    list_good = (texts_fine n list query (unless_ok by_texts (tt {0}) a).0).0

    pub rows_asks : (n ≤ 26) × (rows ≤ 1048577)
    rows_asks = ((alphabet_in n (text_alphabet n true list list_good)).1, omega (arith, is, rows_few n list list_good))

    then_lent : {x : Result ⊤ Refusal} → x ≡ unless (or_else (by_rows (rows_of list)) by_work) (tt {0})
        → x ≡ unless (ask_refusal n list query (length table) (length work)) (tt {0})
    unfolding ask_refusal
    then_lent e = ok_next by_texts (tt {0}) (tt {0}) (or_else (by_rows (rows_of list)) by_work) a e

    rows_are : unless (by_rows rows) (tt {0}) ≡ unless (by_rows (rows_of list)) (tt {0})
    rows_are = ap (λ k. unless (by_rows k) (tt {0})) is

    pub rows_refused : {r : Refusal} → Err r ≡ unless (by_rows rows) (tt {0}) → AskOutcome n list query table work (Err r) table work
    rows_refused e = refused (then_lent (err_first (by_rows (rows_of list)) (tt {0}) (tt {0}) by_work (e ∙ rows_are)))

    -- so are the rows: the work cells decide
    pub work_refused : {v : ⊤} {needed : ℕ} {r : Refusal} → Ok v ≡ unless (by_rows rows) (tt {0}) → needed ≡ max (8 * rows) (length query)
        → Err r ≡ unless_short Work needed (length work) → AskOutcome n list query table work (Err r) table work
    work_refused {v} {needed} b asked e =
        refused (then_lent (ok_next (by_rows (rows_of list)) (tt {0}) (tt {0}) by_work (b ∙ rows_are) (e ∙ work_is)))
      where
        needs : needed ≡ asked_work list query
        needs = asked ∙ ap (λ k. max (8 * k) (length query)) is

        work_is : unless_short Work needed (length work) ≡ unless by_work (tt {0})
        work_is =
            short_unless Work needed (length work) refl ∙ ap (λ k. unless (refused_if (ltb (length work) k) 7 k) (tt {0})) needs

-- ── The answer ──

module _ {n : ℕ} {list query table work : List ℕ} (h : Askable n list query table work) where
  pub build_asks : Foldable n list table work
  build_asks =
      record { fine = (texts_fine n list query h.fine).0; rows = h.rows; room = omega (arith, h.room) }

  module _ {g : BuildSize} {t w₁ : List ℕ} (b : Built n list table work g t w₁) where
    abbrev N : ℕ
    N = g.points

    query_good : text_refusal n false query ≡ none
    query_good = (texts_fine n list query h.fine).1

    long : length w₁ ≡ length work
    long = ap length b.cleared.zeros ∙ length_filled (work_of list) 0 work (omega (arith, h.room))

    lent : is_lent n N (length t) ≡ true
    lent =
        in_lent n N (length t) b.subgroup.based (omega (arith, b.cleared.used, rows_few n list build_asks.fine))
        (omega (arith, mul-le-mul_right (2 * n) b.cleared.used, h.rows, b.cleared.same))

    -- the table that was built is not refused
    never_refused : member_refusal n N t query (length w₁) ≡ none
    unfolding member_refusal cell_refusal
    never_refused =
        rw (query_good, lent, le-ltb (length w₁) (length query) (omega (arith, long, h.room)), table_canonical_none n N t b.subgroup.canonical)

    -- what reading says is what the subgroup says
    says : (a : Bool) → is_accepted (cell n N t) (query_word query) ≡ a → Says (words_of list) (query_word query) (Ok a)
    says true e = inl (refl, (member_iff_reads_back b.subgroup (query_word query)).0 e)
    says false e = inr (refl, λ m. true≢false (sym ((member_iff_reads_back b.subgroup (query_word query)).1 m) ∙ e))

    pub answered : {r : Result Bool Refusal} {w₂ : List ℕ} → MemberOutcome n N t query w₁ r w₂ → AskOutcome n list query table work r t w₂
    unfolding answer_as cells_after
    answered {r} {w₂} m =
        subst (λ o. OutcomeFor n list query table work o r t w₂)
        (sym (fine_ask n list query (length table) (length work) h.fine h.rows h.room)) done
      where
        said : r ≡ Ok (is_accepted (cell n N t) (query_word query))
        said = m.answer ∙ ap (λ o. unless o (is_accepted (cell n N t) (query_word query))) never_refused

        left : w₂ ≡ filled (length query) 0 w₁
        left = m.cells ∙ ap (cells_for query w₁) never_refused

        done : Answered n list query table work r t w₂
        done =
            record {
              points = N;
              subgroup = b.subgroup;
              cleared = subst (Cleared n (rows_of list) N table work t) b.cleared.zeros b.cleared;
              says =
                  subst (Says (words_of list) (query_word query)) (sym said)
                  (says (is_accepted (cell n N t) (query_word query)) refl);
              zeros = left ∙ ap (filled (length query) 0) b.cleared.zeros ∙ filled_twice (length query) (work_of list) 0 work;
            }
