-- The computed refusal of `ask` is the first cause that applies (`specs/Causes`).
--   ask_numbered      : the causes have numbers of document 01's table
--   ask_refusal_first : it is number k at place p exactly if that is the first cause
--   ask_refusal_none  : it is none exactly if no cause applies
--   ask_fine          : where it is none the texts are fine and both buffers are large enough; fine_ask : and the other way
-- Assumes nothing.
use mathlib.Core.Path.{◌≡◌, refl, sym, ◌∙◌, ap, subst}
use mathlib.Core.Logic.{◌⊎◌, inl, inr, ⊎_elim, by_cases, ◌↔◌}
use mathlib.Core.Bool.{Bool, true, false, not, ◌&&◌, ◌||◌, true≢false}
use mathlib.Core.Option.{Option, none, some}
use mathlib.Core.List.{List}
use Prim.Native.Nat.{ℕ, ◌-◌, ◌*◌, ◌≤◌, ◌<◌}
use native.Mathlib.Decide.{dec_lt}
use native.Mathlib.Omega.{arith}
use lib.Dec.{eqb, ltb}
use lib.ListN.{length, get_or}
use borrow.Author.Tests.{ltb-true, ltb-false, lt-ltb, le-ltb, eqb-false, ne_eqb, not-true}
use Rattle.theory.specs.Letters.{line_end}
use Rattle.theory.specs.Refusals.{
  Refusal,
  text_limit,
  Cause1,
  Cause2,
  Cause3,
  Cause4,
  Cause5,
  Cause6,
  CauseShort,
  turn,
  First,
  Only,
  Join,
  TextCause,
  is_alphabet,
  bytes_refusal,
  is_unended,
  or_else,
  refused_if,
  text_refusal,
}
use Rattle.theory.proofs.WordLaws.{by_test}
use Rattle.theory.proofs.RefusalLaws.{and_true, alphabet_in, in_alphabet, refusal_first, refusal_none}
use Rattle.theory.proofs.TableRefusalLaws.{Verdict, Decides, decided_first, decided_none, join, only_if, else_none, unrefused}
use Rattle.refusals.proofs.NumberLaws.{Numbered, numbered_only, numbered_join}
use Rattle.folds.specs.Causes.{rows_of}
use Rattle.asks.specs.Causes.{asked_work, ByteCause, OfTwo, TextsCause, AskCause, texts_refusal, ask_refusal}
use Rattle.asks.proofs.ScanLaws.{bytes_third}

-- ── The bytes of one text ──

byte_numbered : (n : ℕ) (lines : Bool) (text : List ℕ) (k p : ℕ) → ByteCause n lines text k p → Numbered k
byte_numbered n lines text k p c =
    ⊎_elim (numbered_only 3 (Cause3 lines text) refl) (numbered_only 4 (Cause4 n text) refl) c

module _ (n : ℕ) (lines : Bool) (text : List ℕ) (good : is_alphabet n ≡ true) (short : length text ≤ text_limit) where
  -- what a text whose alphabet and length are fine is refused for
  rest : text_refusal n lines text ≡ or_else (bytes_refusal n lines 0 text) (refused_if (lines && is_unended text) 5 (length text))
  unfolding text_refusal
  rest = rw (good, le-ltb text_limit (length text) short)

  -- a cause of bytes is one of the text
  of_text : (k p : ℕ) → ByteCause n lines text k p → TextCause n lines text k p
  of_text k p c =
      ⊎_elim (λ x. subst (λ j. TextCause n lines text j p) (sym x.0) x.1)
      (λ x. subst (λ j. TextCause n lines text j p) (sym x.0) x.1) c

  -- and the other way for 3 and 4
  to_bytes : (k p : ℕ) → (k ≡ 3) ⊎ (k ≡ 4) → TextCause n lines text k p → ByteCause n lines text k p
  to_bytes k p i c =
      ⊎_elim (λ e. inl (e, subst (λ j. TextCause n lines text j p) e c)) (λ e. inr (e, subst (λ j. TextCause n lines text j p) e c)) i

  byte_turn : (k p : ℕ) → ByteCause n lines text k p → turn k ≡ 3
  byte_turn k p c = ⊎_elim (λ x. ap turn x.0) (λ x. ap turn x.0) c

  -- a byte is a letter or not
  one_number : (k l p : ℕ) → ByteCause n lines text k p → ByteCause n lines text l p → k ≡ l
  one_number k l p c d =
      ⊎_elim
      (λ x. ⊎_elim (λ y. x.0 ∙ sym y.0) (λ y. absurd (true≢false (sym y.1.1 ∙ x.1.1))) d)
      (λ x. ⊎_elim (λ y. absurd (true≢false (sym x.1.1 ∙ y.1.1))) (λ y. x.0 ∙ sym y.0) d) c

  bytes_decide : Decides (ByteCause n lines text) (bytes_refusal n lines 0 text)
  bytes_decide =
      record {
        verdict = go (bytes_refusal n lines 0 text) refl;
        one = λ k l p f g. one_number k l p f.applies g.applies;
      }
    where
      clean : bytes_refusal n lines 0 text ≡ none → (u : Bool) → (lines && is_unended text) ≡ u → (k p : ℕ) → ByteCause n lines text k p → ⊥
      clean e true t k p c =
          (refusal_first n lines text (record { number = 5; place = length text }) (rest ∙ rw (e, t))).foremost k p
          (inl (omega (arith, byte_turn k p c))) (of_text k p c)
      clean e false t k p c = refusal_none n lines text (rest ∙ rw (e, t)) k p (of_text k p c)

      go : (o : Option Refusal) → bytes_refusal n lines 0 text ≡ o → Verdict (ByteCause n lines text) o
      go none e = clean e (lines && is_unended text) refl
      go (some r) e =
          let f = refusal_first n lines text r (rest ∙ rw e) in
          record {
            applies = to_bytes r.number r.place (bytes_third n lines text r e) f.applies;
            foremost = λ l q b c. f.foremost l q b (of_text l q c);
          }

-- ── Of two texts ──

module _ {A B : ℕ → ℕ → Type 0} where
  of_two : {a b : Option Refusal} → Decides A a → Decides B b → Decides (OfTwo A B) (or_else a b)
  of_two {a} {b} d e = go a d
    where
      go : (a : Option Refusal) → Decides A a → Decides (OfTwo A B) (or_else a b)
      go none d =
          record { verdict = later b e.verdict; one = λ k l p f g. e.one k l p (second k p f) (second l p g) }
        where
          later : (b : Option Refusal) → Verdict B b → Verdict (OfTwo A B) b
          later none h = λ k p c. ⊎_elim (λ x. d.verdict k p x) (λ x. h k p x.1) c
          later (some r) h =
              record {
                applies = inr (d.verdict, h.applies);
                foremost = λ l q b c. ⊎_elim (λ x. d.verdict l q x) (λ x. h.foremost l q b x.1) c;
              }

          second : (k p : ℕ) → First (OfTwo A B) k p → First B k p
          second k p f =
              record {
                applies = ⊎_elim (λ x. absurd (d.verdict k p x)) (λ x. x.1) f.applies;
                foremost = λ l q b c. f.foremost l q b (inr (d.verdict, c));
              }
      go (some r) d =
          record {
            verdict =
                record {
                  applies = inl d.verdict.applies;
                  foremost = λ l q b c. ⊎_elim (λ x. d.verdict.foremost l q b x) (λ x. x.0 r.number r.place d.verdict.applies) c;
                };
            one = λ k l p f g. d.one k l p (first k p f) (first l p g);
          }
        where
          first : (k p : ℕ) → First (OfTwo A B) k p → First A k p
          first k p f =
              record {
                applies = ⊎_elim (λ x. x) (λ x. absurd (x.0 r.number r.place d.verdict.applies)) f.applies;
                foremost = λ l q b c. f.foremost l q b (inl c);
              }

-- ── The single causes ──

alphabet_decides : (n : ℕ) → Decides (Only 1 (Cause1 n)) (refused_if (not (is_alphabet n)) 1 0)
alphabet_decides n =
    only_if 1 (not (is_alphabet n)) 0 (λ e. (refl, λ h. true≢false (sym (in_alphabet n h.0 h.1) ∙ not-true _ e)))
    (λ q c. (by_test (is_alphabet n) (λ e. absurd (c.1 (alphabet_in n e))) (λ e. ap not e), c.0))

-- one of two tests holds
either : (a b : Bool) → (a || b) ≡ true → (a ≡ true) ⊎ (b ≡ true)
either true b e = inl refl
either false b e = inr e

or_first : (a b : Bool) → a ≡ true → (a || b) ≡ true
or_first a b e = rw e

or_second : (a b : Bool) → b ≡ true → (a || b) ≡ true
or_second true b e = refl
or_second false b e = e

long_decides : (a b : List ℕ)
    → Decides (Only 2 (λ p. Cause2 a p ⊎ Cause2 b p)) (refused_if (ltb text_limit (length a) || ltb text_limit (length b)) 2 0)
long_decides a b =
    only_if 2 (ltb text_limit (length a) || ltb text_limit (length b)) 0
    (λ e. ⊎_elim (λ x. inl (refl, ltb-true text_limit (length a) x)) (λ x. inr (refl, ltb-true text_limit (length b) x))
    (either (ltb text_limit (length a)) (ltb text_limit (length b)) e))
    (λ q c. ⊎_elim
    (λ x. (or_first (ltb text_limit (length a)) (ltb text_limit (length b)) (lt-ltb text_limit (length a) x.1), x.0))
    (λ x. (or_second (ltb text_limit (length a)) (ltb text_limit (length b)) (lt-ltb text_limit (length b) x.1), x.0)) c)

end_decides : (text : List ℕ) → Decides (Only 5 (Cause5 text)) (refused_if (is_unended text) 5 (length text))
unfolding is_unended
end_decides text =
    only_if 5 (ltb 0 (length text) && not (eqb (get_or text (length text - 1) 0) line_end)) (length text)
    (λ e. let h = and_true (ltb 0 (length text)) (not (eqb (get_or text (length text - 1) 0) line_end)) e in
    (refl, ltb-true 0 (length text) h.0, eqb-false (get_or text (length text - 1) 0) line_end (not-true _ h.1)))
    (λ q c. (rw (lt-ltb 0 (length text) c.1, ne_eqb (get_or text (length text - 1) 0) line_end c.2), c.0))

-- a buffer of fewer cells than are needed
few_decides : (k place needed cells : ℕ) → Decides (Only k (λ p. (p ≡ place) × (cells < needed))) (refused_if (ltb cells needed) k place)
few_decides k place needed cells =
    only_if k (ltb cells needed) place (λ e. (refl, ltb-true cells needed e)) (λ q c. (lt-ltb cells needed c.1, c.0))

-- ── All of them ──

-- no cause 1, and no cause 2 of a text
alphabet_clear : (n : ℕ) → ((k p : ℕ) → Only 1 (Cause1 n) k p → ⊥) → is_alphabet n ≡ true
alphabet_clear n clear =
    by_test (is_alphabet n) (λ e. e) (λ e. absurd (clear 1 0 (refl, (refl, λ h. true≢false (sym (in_alphabet n h.0 h.1) ∙ e)))))

short_text : (text : List ℕ) → (Cause2 text 0 → ⊥) → length text ≤ text_limit
short_text text clear = by_cases (dec_lt text_limit (length text)) (λ h. absurd (clear (refl, h))) (λ h. omega arith)

module _ (n : ℕ) (list query : List ℕ) where
  -- 3 and 4 stand at 3
  bytes_turn : (k p : ℕ) → OfTwo (ByteCause n true list) (ByteCause n false query) k p → turn k ≡ 3
  bytes_turn k p c =
      ⊎_elim (⊎_elim (λ x. ap turn x.0) (λ x. ap turn x.0))
      (λ y. ⊎_elim (λ x. ap turn x.0) (λ x. ap turn x.0) y.1) c

  texts_turn : (k p : ℕ) → TextsCause n list query k p → turn k < 6
  texts_turn k p c =
      ⊎_elim (λ x. omega (arith, ap turn x.0))
      (⊎_elim (λ x. omega (arith, ap turn x.0))
      (⊎_elim (λ x. omega (arith, bytes_turn k p x)) (λ x. omega (arith, ap turn x.0)))) c

  texts_numbered : (k p : ℕ) → TextsCause n list query k p → Numbered k
  texts_numbered k p c =
      ⊎_elim (numbered_only 1 (Cause1 n) refl)
      (⊎_elim (numbered_only 2 (λ q. Cause2 list q ⊎ Cause2 query q) refl)
      (⊎_elim (⊎_elim (byte_numbered n true list k p) (λ x. byte_numbered n false query k p x.1)) (numbered_only 5 (Cause5 list) refl))) c

  texts_decide : Decides (TextsCause n list query) (texts_refusal n list query)
  unfolding texts_refusal
  texts_decide =
      join (λ k p l q a b. ⊎_elim (λ x. omega (arith, ap turn a.0, ap turn x.0))
      (⊎_elim (λ x. omega (arith, ap turn a.0, bytes_turn l q x)) (λ x. omega (arith, ap turn a.0, ap turn x.0))) b)
      (alphabet_decides n)
      (λ one. join (λ k p l q a b.
      ⊎_elim (λ x. omega (arith, ap turn a.0, bytes_turn l q x)) (λ x. omega (arith, ap turn a.0, ap turn x.0)) b)
      (long_decides list query)
      (λ two. join (λ k p l q a b. omega (arith, bytes_turn k p a, ap turn b.0))
      (of_two
      (bytes_decide n true list (alphabet_clear n one) (short_text list (λ c. two 2 0 (refl, inl c))))
      (bytes_decide n false query (alphabet_clear n one) (short_text query (λ c. two 2 0 (refl, inr c)))))
      (λ _. end_decides list)))

  module _ (cells room : ℕ) where
    ask_decides : Decides (AskCause n list query cells room) (ask_refusal n list query cells room)
    unfolding ask_refusal
    ask_decides =
        join (λ k p l q a b.
        let h = texts_turn k p a in ⊎_elim (λ x. omega (arith, ap turn x.0)) (λ x. omega (arith, ap turn x.0)) b)
        texts_decide
        (λ _. join (λ k p l q a b. omega (arith, ap turn a.0, ap turn b.0))
        (few_decides 6 0 (rows_of list * (2 * n)) cells) (λ _. few_decides 7 (asked_work list query) (asked_work list query) room))

    -- the causes are some of document 01
    pub ask_numbered : (k p : ℕ) → AskCause n list query cells room k p → Numbered k
    ask_numbered k p c =
        numbered_join (TextsCause n list query) (Join (Only 6 by_rows) (Only 7 by_work)) (texts_numbered k p)
        (numbered_join (Only 6 by_rows) (Only 7 by_work) (numbered_only 6 by_rows refl) (numbered_only 7 by_work refl)) c
      where
        by_rows : ℕ → Type 0
        by_rows = Cause6 n (rows_of list) cells

        by_work : ℕ → Type 0
        by_work = CauseShort (asked_work list query) room

    pub ask_refusal_first : (k p : ℕ)
        → (ask_refusal n list query cells room ≡ some (record { number = k; place = p })) ↔ First (AskCause n list query cells room) k p
    ask_refusal_first = decided_first ask_decides

    pub ask_refusal_none : (ask_refusal n list query cells room ≡ none) ↔ ((k p : ℕ) → AskCause n list query cells room k p → ⊥)
    ask_refusal_none = decided_none ask_decides

    pub ask_fine : ask_refusal n list query cells room ≡ none
        → (texts_refusal n list query ≡ none) × (rows_of list * (2 * n) ≤ cells) × (asked_work list query ≤ room)
    unfolding ask_refusal
    ask_fine e =
        let lent : Option Refusal = refused_if (ltb cells (rows_of list * (2 * n))) 6 0 in
        let left : Option Refusal = refused_if (ltb room (asked_work list query)) 7 (asked_work list query) in
        let a = else_none (texts_refusal n list query) (or_else lent left) e in
        let b = else_none lent left a.1 in (
          a.0,
          ltb-false cells (rows_of list * (2 * n)) (unrefused (ltb cells (rows_of list * (2 * n))) 6 0 b.0),
          ltb-false room (asked_work list query) (unrefused (ltb room (asked_work list query)) 7 (asked_work list query) b.1),
        )

    pub fine_ask : texts_refusal n list query ≡ none → rows_of list * (2 * n) ≤ cells → asked_work list query ≤ room
        → ask_refusal n list query cells room ≡ none
    unfolding ask_refusal
    fine_ask e a b = rw (e, le-ltb cells (rows_of list * (2 * n)) a, le-ltb room (asked_work list query) b)
