-- The text of a list's words (theory's `list_text`; `words_of_text` in theory is the other way round).
--   text_of_words : the words of a list that is not refused, written as a list text, are the list; their letters are over n
-- Assumes nothing.
use mathlib.Core.Path.{◌≡◌, refl, sym, ◌∙◌, ap, subst}
use mathlib.Core.Logic.{by_cases}
use mathlib.Core.Bool.{Bool, true, false, cond, not, ◌&&◌, true≢false}
use mathlib.Core.Option.{Option, none, some}
use mathlib.Core.List.{List, [], ◌∷◌}
use Prim.Native.Nat.{ℕ, suc, ◌-◌, ◌*◌, ◌<◌}
use native.Mathlib.Decide.{ℕ_discrete}
use native.Mathlib.Omega.{arith}
use lib.Dec.{eqb, ltb}
use lib.ListN.{length}
use borrow.Author.Tests.{eq-eqb, ne_eqb, lt-ltb, ltb-true, eqb-true, not-false}
use Rattle.theory.specs.Letters.{letter_of, is_letter, line_end, on_first, words_of}
use Rattle.theory.specs.Refusals.{Refusal as FirstCause, text_limit, is_alphabet, byte_refusal, bytes_refusal, is_unended, refused_if, text_refusal}
use Rattle.theory.specs.Texts.{list_text}
use Rattle.theory.proofs.LetterLaws.{byte_letter}
use Rattle.theory.proofs.RefusalLaws.{bytes_pass, bytes_stop}
use Rattle.theory.proofs.TableRefusalLaws.{else_none, unrefused}
use Rattle.theory.proofs.ListTexts.{WordsBelow}

-- a byte that draws nothing and is no line end is a letter over n
byte_fine : (n b : ℕ) → byte_refusal n true b ≡ 0 → (b ≡ line_end → ⊥) → (is_letter b ≡ true) × (letter_of b < 2 * n)
unfolding byte_refusal
byte_fine n b e h = go (is_letter b) refl (ltb (letter_of b) (2 * n)) refl e
  where
    go : (l : Bool) → is_letter b ≡ l → (t : Bool) → ltb (letter_of b) (2 * n) ≡ t → ◌≡◌ {A = ℕ} (cond l (cond t 0 4) (cond (eqb b line_end) 0 3)) 0
        → (is_letter b ≡ true) × (letter_of b < 2 * n)
    go true l true t d = (l, ltb-true (letter_of b) (2 * n) t)
    go true l false t d = absurd (omega (arith, d))
    go false l t u d = absurd (omega (arith, sym (ap (λ z. cond z 0 3) (ne_eqb b line_end h)) ∙ d))

-- the first byte draws nothing, nor do the others
first_fine : (n i b : ℕ) (bs : List ℕ) → bytes_refusal n true i (b ∷ bs) ≡ none → (byte_refusal n true b ≡ 0) × (bytes_refusal n true (suc i) bs ≡ none)
first_fine n i b bs e =
    by_cases (ℕ_discrete (byte_refusal n true b) 0) (λ z. (z, sym (bytes_pass n true i b bs z) ∙ e))
    (λ z. absurd (some_none (sym (bytes_stop n true i b bs z) ∙ e)))
  where
    some_none : {r : FirstCause} → ◌≡◌ {A = Option FirstCause} (some r) none → ⊥
    some_none f = true≢false cc

-- a text behind its first byte ends as the text does
rest_ended : (b d : ℕ) (bs : List ℕ) → is_unended (b ∷ d ∷ bs) ≡ false → is_unended (d ∷ bs) ≡ false
unfolding is_unended
rest_ended b d bs e = sym (rw (lt-ltb 0 (suc (suc (length bs))) (omega arith), lt-ltb 0 (suc (length bs)) (omega arith), minus (suc (length bs)), minus (length bs))) ∙ e
  where
    minus : (k : ℕ) → suc k - 1 ≡ k
    minus k = omega arith

-- one byte that ends a list is a line end
last_ended : (b : ℕ) → is_unended (b ∷ []) ≡ false → b ≡ line_end
unfolding is_unended
last_ended b e = eqb-true b line_end (not-false (eqb b line_end) e)

-- a letter more in front of a first word that is there
letter_more : (n b : ℕ) (bs : List ℕ) (ws : List (List ℕ)) → 0 < length bs → is_letter b ≡ true → letter_of b < 2 * n
    → (list_text ws ≡ bs) × WordsBelow (2 * n) ws → (list_text (on_first (letter_of b) ws) ≡ b ∷ bs) × WordsBelow (2 * n) (on_first (letter_of b) ws)
unfolding on_first list_text
letter_more n b bs [] h l m e = absurd (omega (arith, ap length e.0))
letter_more n b bs (w ∷ ws) h l m e =
    (ap (λ z. z ∷ list_text (w ∷ ws)) (byte_letter b l) ∙ ap (λ k. b ∷ k) e.0, ((m, e.1.0), e.1.1))

bytes_words : (n i : ℕ) (list : List ℕ) → bytes_refusal n true i list ≡ none → is_unended list ≡ false
    → (list_text (words_of list) ≡ list) × WordsBelow (2 * n) (words_of list)
unfolding words_of list_text
bytes_words n i [] e u = (refl, tt)
bytes_words n i (b ∷ []) e u =
    rw (eq-eqb b line_end (last_ended b u)) (ap (λ z. z ∷ []) (sym (last_ended b u)), (tt, tt))
bytes_words n i (b ∷ d ∷ bs) e u =
    let f = first_fine n i b (d ∷ bs) e in
    let s = bytes_words n (suc i) (d ∷ bs) f.1 (rest_ended b d bs u) in
    by_cases (ℕ_discrete b line_end)
    (λ z. subst (λ ws. (list_text ws ≡ b ∷ d ∷ bs) × WordsBelow (2 * n) ws)
    (sym (ap (λ t. cond t ([] ∷ words_of (d ∷ bs)) (on_first (letter_of b) (words_of (d ∷ bs)))) (eq-eqb b line_end z)))
    (ap (λ l. line_end ∷ l) s.0 ∙ ap (λ y. y ∷ d ∷ bs) (sym z), (tt, s.1)))
    (λ z. let g = byte_fine n b f.0 z in
    subst (λ ws. (list_text ws ≡ b ∷ d ∷ bs) × WordsBelow (2 * n) ws)
    (sym (ap (λ t. cond t ([] ∷ words_of (d ∷ bs)) (on_first (letter_of b) (words_of (d ∷ bs)))) (ne_eqb b line_end z)))
    (letter_more n b (d ∷ bs) (words_of (d ∷ bs)) (omega arith) g.0 g.1 s))

pub text_of_words : (n : ℕ) (list : List ℕ) → text_refusal n true list ≡ none → (list_text (words_of list) ≡ list) × WordsBelow (2 * n) (words_of list)
unfolding text_refusal
text_of_words n list e =
    let a = else_none (refused_if (not (is_alphabet n)) 1 0) _ e in
    let b = else_none (refused_if (ltb text_limit (length list)) 2 0) _ a.1 in
    let c = else_none (bytes_refusal n true 0 list) _ b.1 in
    bytes_words n 0 list c.0 (unrefused (true && is_unended list) 5 (length list) c.1)
