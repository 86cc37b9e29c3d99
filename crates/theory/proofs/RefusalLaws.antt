-- The computed refusal of a text is the first cause that applies (`specs/Refusals`).
--   refusal_first    : what is computed is `First`
--   first_refusal    : what is `First` is computed
--   refusal_none     : where nothing is computed no cause applies
--   none_refusal     : where no cause applies nothing is computed
-- Assumes nothing.
use mathlib.Core.Path.{◌≡◌, refl, sym, ◌∙◌, ap, subst}
use mathlib.Core.Logic.{◌⊎◌, inl, inr, ⊎_elim, by_cases}
use mathlib.Core.Bool.{Bool, true, false, cond, not, ◌&&◌, true≢false}
use mathlib.Core.Option.{Option, none, some, some-injective}
use mathlib.Core.List.{List, [], ◌∷◌}
use Prim.Native.Nat.{ℕ, zero, suc, ◌+◌, ◌-◌, ◌*◌, ◌≤◌, ◌<◌}
use native.Mathlib.Nat.{add-zero, add-suc, suc-add}
use native.Mathlib.Decide.{ℕ_discrete, dec_lt}
use native.Mathlib.Omega.{arith}
use lib.Dec.{eqb, ltb, leb}
use lib.ListN.{length, get_or}
use borrow.Author.Tests.{eq-eqb, ne_eqb, eqb-true, eqb-false, ltb-true, ltb-false, lt-ltb, le-ltb, leb-true, le-leb, lt-leb, not-true}
use Rattle.theory.specs.Letters.{letter_of, is_letter, line_end}
use Rattle.theory.specs.Refusals.{Refusal, turn, First, Cause1, Cause2, Cause5, InList, TextCause, text_limit, is_alphabet, byte_refusal, bytes_refusal, is_unended, or_else, refused_if, text_refusal}
use Rattle.theory.proofs.WordLaws.{by_test}

-- both tests of an `&&` hold
pub and_true : (a b : Bool) → (a && b) ≡ true → (a ≡ true) × (b ≡ true)
and_true true b e = (refl, e)
and_true false b e = absurd (true≢false (sym e))

-- the number and the place of a refusal are what was given
pub some_number : (k l p q : ℕ) → ◌≡◌ {A = Option Refusal} (some (record { number = k; place = p })) (some (record { number = l; place = q })) → (k ≡ l) × (p ≡ q)
some_number k l p q e =
    let s : ◌≡◌ {A = Refusal} (record { number = k; place = p }) (record { number = l; place = q }) =
    some-injective _ _ e in
    (ap (λ (r : Refusal). r.number) s, ap (λ (r : Refusal). r.place) s)

none_some : {C : Type 0} (r : Refusal) → ◌≡◌ {A = Option Refusal} none (some r) → C
none_some r e = let z : ◌≡◌ {A = ℕ} 0 1 = cc in absurd (omega arith)

-- ── Cause 1 ──

pub alphabet_in : (n : ℕ) → is_alphabet n ≡ true → (1 ≤ n) × (n ≤ 26)
unfolding is_alphabet
alphabet_in n e = let h = and_true (leb 1 n) (leb n 26) e in (leb-true 1 n h.0, leb-true n 26 h.1)

pub in_alphabet : (n : ℕ) → 1 ≤ n → n ≤ 26 → is_alphabet n ≡ true
unfolding is_alphabet
in_alphabet n a b = rw (le-leb 1 n a, le-leb n 26 b)

-- n is below 1, or above 26
pub below_alphabet : (n : ℕ) → n < 1 → is_alphabet n ≡ false
unfolding is_alphabet
below_alphabet n h = rw (lt-leb 1 n h)

pub above_alphabet : (n : ℕ) → 1 ≤ n → 26 < n → is_alphabet n ≡ false
unfolding is_alphabet
above_alphabet n h k = rw (le-leb 1 n h, lt-leb n 26 k)

alphabet_out : (n : ℕ) → is_alphabet n ≡ false → Cause1 n 0
alphabet_out n e = (refl, λ h. true≢false (sym (in_alphabet n h.0 h.1) ∙ e))

-- ── Causes 3 and 4 ──

zero_apart : (k : ℕ) → zero ≡ suc k → ⊥
zero_apart k e = omega arith

-- a choice of two numbers is no third
pick_apart : (t : Bool) (a b c : ℕ) → (a ≡ c → ⊥) → (b ≡ c → ⊥) → cond t a b ≡ c → ⊥
pick_apart true a b c f g e = f e
pick_apart false a b c f g e = g e

module _ (n : ℕ) (lines : Bool) (b : ℕ) where
  -- what a byte draws, by its three cases
  letter_draws : is_letter b ≡ true → byte_refusal n lines b ≡ cond (ltb (letter_of b) (2 * n)) 0 4
  unfolding byte_refusal
  letter_draws e = rw e

  other_draws : is_letter b ≡ false → byte_refusal n lines b ≡ cond (lines && eqb b line_end) 0 3
  unfolding byte_refusal
  other_draws e = rw e

  -- a byte draws 3 exactly if it is no letter, nor an allowed line end
  draws_3 : is_letter b ≡ false → (lines ≡ true → b ≡ line_end → ⊥) → byte_refusal n lines b ≡ 3
  draws_3 e h = other_draws e ∙ ap (λ t. cond t 0 3) (by_test (lines && eqb b line_end) (λ t. absurd (both t)) (λ t. t))
    where
      both : (lines && eqb b line_end) ≡ true → ⊥
      both t = let a = and_true lines (eqb b line_end) t in h a.0 (eqb-true b line_end a.1)

  drawn_3 : byte_refusal n lines b ≡ 3 → (is_letter b ≡ false) × (lines ≡ true → b ≡ line_end → ⊥)
  drawn_3 d = by_test (is_letter b) (λ e. absurd (letter e)) (λ e. (e, λ l q. other e l q))
    where
      letter : is_letter b ≡ true → ⊥
      letter e = pick_apart (ltb (letter_of b) (2 * n)) 0 4 3 (λ z. omega arith) (λ z. omega arith) (sym (letter_draws e) ∙ d)

      other : is_letter b ≡ false → lines ≡ true → b ≡ line_end → ⊥
      other e l q = zero_apart 2 (sym (ap (λ t. cond t 0 3) (ends l q)) ∙ sym (other_draws e) ∙ d)
        where
          ends : lines ≡ true → b ≡ line_end → (lines && eqb b line_end) ≡ true
          ends l q = rw (l, eq-eqb b line_end q)

  -- a byte draws 4 exactly if it is a letter beyond n
  draws_4 : is_letter b ≡ true → 2 * n ≤ letter_of b → byte_refusal n lines b ≡ 4
  draws_4 e h = letter_draws e ∙ ap (λ t. cond t 0 4) (le-ltb (letter_of b) (2 * n) h)

  drawn_4 : byte_refusal n lines b ≡ 4 → (is_letter b ≡ true) × (2 * n ≤ letter_of b)
  drawn_4 d = by_test (is_letter b) (λ e. (e, letter e)) (λ e. absurd (other e))
    where
      other : is_letter b ≡ false → ⊥
      other e = pick_apart (lines && eqb b line_end) 0 3 4 (λ z. omega arith) (λ z. omega arith) (sym (other_draws e) ∙ d)

      letter : is_letter b ≡ true → 2 * n ≤ letter_of b
      letter e =
          by_test (ltb (letter_of b) (2 * n))
          (λ t. absurd (zero_apart 3 (sym (ap (λ s. cond s 0 4) t) ∙ sym (letter_draws e) ∙ d)))
          (λ t. ltb-false (letter_of b) (2 * n) t)

  -- it draws nothing, 3 or 4
  draws : (byte_refusal n lines b ≡ 0) ⊎ ((byte_refusal n lines b ≡ 3) ⊎ (byte_refusal n lines b ≡ 4))
  draws = by_test (is_letter b) (λ e. letter (ltb (letter_of b) (2 * n)) (letter_draws e)) (λ e. other (lines && eqb b line_end) (other_draws e))
    where
      letter : (t : Bool) → byte_refusal n lines b ≡ cond t 0 4 → (byte_refusal n lines b ≡ 0) ⊎ ((byte_refusal n lines b ≡ 3) ⊎ (byte_refusal n lines b ≡ 4))
      letter true q = inl q
      letter false q = inr (inr q)

      other : (t : Bool) → byte_refusal n lines b ≡ cond t 0 3 → (byte_refusal n lines b ≡ 0) ⊎ ((byte_refusal n lines b ≡ 3) ⊎ (byte_refusal n lines b ≡ 4))
      other true q = inl q
      other false q = inr (inl q)

-- the byte at p draws number k
abbrev pub Draws : ℕ → Bool → List ℕ → ℕ → ℕ → Type 0
Draws n lines text k p = (p < length text) × (byte_refusal n lines (get_or text p 0) ≡ k)

-- one turn of the scan: a byte that draws nothing is passed, any other ends it
pub bytes_pass : (n : ℕ) (lines : Bool) (i b : ℕ) (bs : List ℕ) → byte_refusal n lines b ≡ 0 → bytes_refusal n lines i (b ∷ bs) ≡ bytes_refusal n lines (suc i) bs
unfolding bytes_refusal
bytes_pass n lines i b bs e = rw (eq-eqb (byte_refusal n lines b) 0 e)

pub bytes_stop : (n : ℕ) (lines : Bool) (i b : ℕ) (bs : List ℕ) → (byte_refusal n lines b ≡ 0 → ⊥) → bytes_refusal n lines i (b ∷ bs) ≡ some (record { number = byte_refusal n lines b; place = i })
unfolding bytes_refusal
bytes_stop n lines i b bs e = rw (ne_eqb (byte_refusal n lines b) 0 e)

-- what a scan from i says: nothing drawn, or the first byte that draws
abbrev pub Scanned : ℕ → Bool → ℕ → List ℕ → Option Refusal → Type 0
Scanned n lines i bs none = (q : ℕ) → q < length bs → byte_refusal n lines (get_or bs q 0) ≡ 0
Scanned n lines i bs (some r) =
    (j : ℕ)
    × (i + j ≡ r.place)
    × Draws n lines bs r.number j
    × (r.number ≡ 0 → ⊥)
    × ((q : ℕ) → q < j → byte_refusal n lines (get_or bs q 0) ≡ 0)

-- a byte more in front, which draws nothing
passed_cons : (n : ℕ) (lines : Bool) (b : ℕ) (bs : List ℕ) (k : ℕ) → byte_refusal n lines b ≡ 0 → ((q : ℕ) → q < k → byte_refusal n lines (get_or bs q 0) ≡ 0) → (q : ℕ) → q < suc k → byte_refusal n lines (get_or (b ∷ bs) q 0) ≡ 0
passed_cons n lines b bs k e s zero h = e
passed_cons n lines b bs k e s (suc q) h = s q (omega arith)

scanned_cons : (n : ℕ) (lines : Bool) (i b : ℕ) (bs : List ℕ) (o : Option Refusal) → byte_refusal n lines b ≡ 0 → Scanned n lines (suc i) bs o → Scanned n lines i (b ∷ bs) o
scanned_cons n lines i b bs none e s = passed_cons n lines b bs (length bs) e s
scanned_cons n lines i b bs (some r) e s =
    (suc s.0, add-suc i s.0 ∙ sym (suc-add i s.0) ∙ s.1, (omega (arith, s.2.0), s.2.1), s.3, passed_cons n lines b bs s.0 e s.4)

pub scanned : (n : ℕ) (lines : Bool) (i : ℕ) (bs : List ℕ) → Scanned n lines i bs (bytes_refusal n lines i bs)
unfolding bytes_refusal
scanned n lines i [] = λ q h. absurd (omega arith)
scanned n lines i (b ∷ bs) =
    by_cases (ℕ_discrete (byte_refusal n lines b) 0)
    (λ e. subst (Scanned n lines i (b ∷ bs)) (sym (bytes_pass n lines i b bs e)) (scanned_cons n lines i b bs (bytes_refusal n lines (suc i) bs) e (scanned n lines (suc i) bs)))
    (λ e. subst (Scanned n lines i (b ∷ bs)) (sym (bytes_stop n lines i b bs e)) (0, add-zero i, (omega arith, refl), e, λ q h. absurd (omega arith)))

-- ── Cause 5 ──

unended_true : (text : List ℕ) → is_unended text ≡ true → Cause5 text (length text)
unfolding is_unended
unended_true text e =
    let h = and_true (ltb 0 (length text)) (not (eqb (get_or text (length text - 1) 0) line_end)) e in
    (refl, ltb-true 0 (length text) h.0, eqb-false (get_or text (length text - 1) 0) line_end (not-true _ h.1))

unended_of : (text : List ℕ) (p : ℕ) → Cause5 text p → is_unended text ≡ true
unfolding is_unended
unended_of text p h = rw (lt-ltb 0 (length text) h.1, ne_eqb (get_or text (length text - 1) 0) line_end h.2)

in_list : (lines : Bool) (C : Type 0) → InList lines C → (lines ≡ true) × C
in_list true C c = (refl, c)
in_list false C c = absurd c

list_in_lem : (lines : Bool) (C : Type 0) → lines ≡ true → C → InList lines C
list_in_lem true C e c = c
list_in_lem false C e c = absurd (true≢false (sym e))

-- ── The first cause ──

-- a number of a later turn, or of the same turn and no lower place, does not stand before
later : (t s q p : ℕ) → s < t → (t < s) ⊎ ((t ≡ s) × (q < p)) → ⊥
later t s q p h b = ⊎_elim (λ a. omega arith) (λ a. omega arith) b

beside : (t s q p : ℕ) → p ≤ q → s ≤ t → (t < s) ⊎ ((t ≡ s) × (q < p)) → ⊥
beside t s q p h e b = ⊎_elim (λ a. omega arith) (λ a. omega arith) b

turn_34 : (l : ℕ) → (l ≡ 3) ⊎ (l ≡ 4) → turn l ≡ 3
turn_34 l h = ⊎_elim (λ e. ap turn e) (λ e. ap turn e) h

module _ (n : ℕ) (lines : Bool) (text : List ℕ) where
  -- a cause, by its number
  split : (l p : ℕ) {C : Type 0} → TextCause n lines text l p → (l ≡ 1 → Cause1 n p → C) → (l ≡ 2 → Cause2 text p → C)
      → ((l ≡ 3) ⊎ (l ≡ 4) → Draws n lines text l p → C) → (l ≡ 5 → (lines ≡ true) × Cause5 text p → C) → C
  split zero p c f1 f2 f3 f5 = absurd c
  split (suc zero) p c f1 f2 f3 f5 = f1 refl c
  split (suc (suc zero)) p c f1 f2 f3 f5 = f2 refl c
  split (suc (suc (suc zero))) p c f1 f2 f3 f5 = f3 (inl refl) (c.0, draws_3 n lines (get_or text p 0) c.1 c.2)
  split (suc (suc (suc (suc zero)))) p c f1 f2 f3 f5 = f3 (inr refl) (c.0, draws_4 n lines (get_or text p 0) c.1 c.2)
  split (suc (suc (suc (suc (suc zero))))) p c f1 f2 f3 f5 = f5 refl (in_list lines (Cause5 text p) c)
  split (suc (suc (suc (suc (suc (suc l)))))) p c f1 f2 f3 f5 = absurd c

  -- the causes of a text stand before those of tables and buffers
  pub text_turn : (k p : ℕ) → TextCause n lines text k p → turn k < 6
  text_turn k p c =
      split k p c (λ i _. omega (arith, ap turn i)) (λ i _. omega (arith, ap turn i)) (λ i _. omega (arith, turn_34 k i))
      (λ i _. omega (arith, ap turn i))

  -- a number that a byte draws is 3 or 4, and its cause applies there
  drawn : (k p : ℕ) → (k ≡ 0 → ⊥) → Draws n lines text k p → ((k ≡ 3) ⊎ (k ≡ 4)) × TextCause n lines text k p
  drawn k p k≢0 d =
      ⊎_elim (λ e. absurd (k≢0 (sym d.1 ∙ e)))
      (⊎_elim (λ e. three (sym d.1 ∙ e) e) (λ e. four (sym d.1 ∙ e) e)) (draws n lines (get_or text p 0))
    where
      three : k ≡ 3 → byte_refusal n lines (get_or text p 0) ≡ 3 → ((k ≡ 3) ⊎ (k ≡ 4)) × TextCause n lines text k p
      three e q =
          let h = drawn_3 n lines (get_or text p 0) q in
          (inl e, subst (λ j. TextCause n lines text j p) (sym e) (d.0, h.0, h.1))

      four : k ≡ 4 → byte_refusal n lines (get_or text p 0) ≡ 4 → ((k ≡ 3) ⊎ (k ≡ 4)) × TextCause n lines text k p
      four e q =
          let h = drawn_4 n lines (get_or text p 0) q in
          (inr e, subst (λ j. TextCause n lines text j p) (sym e) (d.0, h.0, h.1))

  -- what is to be shown of a computed refusal
  abbrev Verdict : Option Refusal → Type 0
  Verdict none = (k p : ℕ) → TextCause n lines text k p → ⊥
  Verdict (some r) = First (TextCause n lines text) r.number r.place

  stage1 : is_alphabet n ≡ false → First (TextCause n lines text) 1 0
  stage1 e =
      record {
        applies = alphabet_out n e;
        foremost = λ l q b c.
            split l q c (λ i _. beside (turn l) 1 q 0 (omega arith) (omega (arith, ap turn i)) b)
            (λ i _. later (turn l) 1 q 0 (omega (arith, ap turn i)) b)
            (λ i _. later (turn l) 1 q 0 (omega (arith, turn_34 l i)) b)
            (λ i _. later (turn l) 1 q 0 (omega (arith, ap turn i)) b);
      }

  module _ (good : is_alphabet n ≡ true) where
    no1 : (p : ℕ) → Cause1 n p → ⊥
    no1 p c = c.1 (alphabet_in n good)

    stage2 : text_limit < length text → First (TextCause n lines text) 2 0
    stage2 h =
        record {
          applies = (refl, h);
          foremost = λ l q b c.
              split l q c (λ i a. no1 q a)
              (λ i _. beside (turn l) 2 q 0 (omega arith) (omega (arith, ap turn i)) b)
              (λ i _. later (turn l) 2 q 0 (omega (arith, turn_34 l i)) b)
              (λ i _. later (turn l) 2 q 0 (omega (arith, ap turn i)) b);
        }

    module _ (short : length text ≤ text_limit) where
      no2 : (p : ℕ) → Cause2 text p → ⊥
      no2 p c = omega (arith, c.1)

      stage3 : (r : Refusal) → Scanned n lines 0 text (some r) → First (TextCause n lines text) r.number r.place
      stage3 r s =
          record {
            applies = k.1;
            foremost = λ l q b c.
                split l q c (λ i a. no1 q a) (λ i a. no2 q a)
                (λ i d. earlier l q i d (subst (λ t. (turn l < t) ⊎ ((turn l ≡ t) × (q < r.place))) (turn_34 r.number k.0) b))
                (λ i _. later (turn l) (turn r.number) q r.place (omega (arith, ap turn i, turn_34 r.number k.0)) b);
          }
        where
          place : s.0 ≡ r.place
          place = omega (arith, s.1)

          k : ((r.number ≡ 3) ⊎ (r.number ≡ 4)) × TextCause n lines text r.number r.place
          k = drawn r.number r.place s.3 (subst (Draws n lines text r.number) place s.2)

          earlier : (l q : ℕ) → (l ≡ 3) ⊎ (l ≡ 4) → Draws n lines text l q → (turn l < 3) ⊎ ((turn l ≡ 3) × (q < r.place)) → ⊥
          earlier l q i d b =
              ⊎_elim (λ a. omega (arith, turn_34 l i, a))
              (λ a. let z : l ≡ 0 = sym d.1 ∙ s.4 q (omega (arith, a.1, place)) in ⊎_elim (λ e. omega arith) (λ e. omega arith) i) b

      module _ (clean : Scanned n lines 0 text none) where
        no34 : (l q : ℕ) → (l ≡ 3) ⊎ (l ≡ 4) → Draws n lines text l q → ⊥
        no34 l q i d = let z : l ≡ 0 = sym d.1 ∙ clean q d.0 in ⊎_elim (λ e. omega arith) (λ e. omega arith) i

        stage5 : lines ≡ true → is_unended text ≡ true → First (TextCause n lines text) 5 (length text)
        stage5 e h =
            record {
              applies = list_in_lem lines (Cause5 text (length text)) e (unended_true text h);
              foremost = λ l q b c.
                  split l q c (λ i a. no1 q a) (λ i a. no2 q a) (λ i d. no34 l q i d)
                  (λ i a. beside (turn l) 5 q (length text) (omega (arith, a.1.0)) (omega (arith, ap turn i)) b);
            }

        nothing : (lines && is_unended text) ≡ false → (k p : ℕ) → TextCause n lines text k p → ⊥
        nothing e k p c =
            split k p c (λ i a. no1 p a) (λ i a. no2 p a) (λ i d. no34 k p i d)
            (λ i a. true≢false (sym (both a.0 (unended_of text p a.1)) ∙ e))
          where
            both : lines ≡ true → is_unended text ≡ true → (lines && is_unended text) ≡ true
            both a b = rw (a, b)

  verdict : Verdict (text_refusal n lines text)
  unfolding text_refusal
  verdict =
      by_test (is_alphabet n)
      (λ good. rw good
      (by_test (ltb text_limit (length text)) (λ h. rw h (stage2 good (ltb-true text_limit (length text) h)))
      (λ h. rw h (scan good (ltb-false text_limit (length text) h) (bytes_refusal n lines 0 text) (scanned n lines 0 text)))))
      (λ bad. rw bad (stage1 bad))
    where
      end : (good : is_alphabet n ≡ true) (short : length text ≤ text_limit) → Scanned n lines 0 text none → Verdict (refused_if (lines && is_unended text) 5 (length text))
      end good short s =
          by_test (lines && is_unended text)
          (λ t. rw t (let a = and_true lines (is_unended text) t in stage5 good short s a.0 a.1))
          (λ t. rw t (nothing good short s t))

      scan : (good : is_alphabet n ≡ true) (short : length text ≤ text_limit) (o : Option Refusal) → Scanned n lines 0 text o → Verdict (or_else o (refused_if (lines && is_unended text) 5 (length text)))
      scan good short none s = end good short s
      scan good short (some r) s = stage3 good short r s

  -- what is computed is the first cause
  pub refusal_first : (r : Refusal) → text_refusal n lines text ≡ some r → First (TextCause n lines text) r.number r.place
  refusal_first r e = subst Verdict e verdict

  -- where nothing is computed no cause applies
  pub refusal_none : text_refusal n lines text ≡ none → (k p : ℕ) → TextCause n lines text k p → ⊥
  refusal_none e = subst Verdict e verdict

  -- a cause is drawn by a byte, or its number is its turn
  sort : (k p : ℕ) → TextCause n lines text k p → (Draws n lines text k p × (turn k ≡ 3)) ⊎ ((turn k ≡ k) × (k ≡ 3 → ⊥))
  sort k p c =
      split k p c (λ i _. inr (ap turn i ∙ sym i, λ z. omega arith)) (λ i _. inr (ap turn i ∙ sym i, λ z. omega arith))
      (λ i d. inl (d, turn_34 k i)) (λ i _. inr (ap turn i ∙ sym i, λ z. omega arith))

  -- there is one first cause
  pub first_unique : (k p l q : ℕ) → First (TextCause n lines text) k p → First (TextCause n lines text) l q → (k ≡ l) × (p ≡ q)
  first_unique k p l q f g = (number, place)
    where
      not_below : turn k < turn l → ⊥
      not_below h = g.foremost k p (inl h) f.applies

      not_above : turn l < turn k → ⊥
      not_above h = f.foremost l q (inl h) g.applies

      turns : turn k ≡ turn l
      turns = equal (turn k) (turn l) not_below not_above
        where
          equal : (a b : ℕ) → (a < b → ⊥) → (b < a → ⊥) → a ≡ b
          equal a b x y = by_cases (dec_lt a b) (λ h. absurd (x h)) (λ h. by_cases (dec_lt b a) (λ j. absurd (y j)) (λ j. omega arith))

      place : p ≡ q
      place =
          by_cases (dec_lt p q) (λ h. absurd (g.foremost k p (inr (turns, h)) f.applies))
          (λ h. by_cases (dec_lt q p) (λ j. absurd (f.foremost l q (inr (sym turns, j)) g.applies)) (λ j. omega arith))

      number : k ≡ l
      number =
          ⊎_elim
          (λ a. ⊎_elim (λ b. sym a.0.1 ∙ ap (λ i. byte_refusal n lines (get_or text i 0)) place ∙ b.0.1)
          (λ b. absurd (b.1 (sym b.0 ∙ sym turns ∙ a.1))) (sort l q g.applies))
          (λ a. ⊎_elim (λ b. absurd (a.1 (sym a.0 ∙ turns ∙ b.1)))
          (λ b. sym a.0 ∙ turns ∙ b.0) (sort l q g.applies))
          (sort k p f.applies)

  -- the first cause is what is computed
  pub first_refusal : (k p : ℕ) → First (TextCause n lines text) k p → text_refusal n lines text ≡ some (record { number = k; place = p })
  first_refusal k p f = go (text_refusal n lines text) refl
    where
      go : (o : Option Refusal) → text_refusal n lines text ≡ o → text_refusal n lines text ≡ some (record { number = k; place = p })
      go none e = absurd (refusal_none e k p f.applies)
      go (some r) e = let u = first_unique r.number r.place k p (refusal_first r e) f in e ∙ same u.0 u.1
        where
          same : r.number ≡ k → r.place ≡ p → some r ≡ some (record { number = k; place = p })
          same a b = ap some (λ i. record { number = a i; place = b i })

  -- where no cause applies nothing is computed
  pub none_refusal : ((k p : ℕ) → TextCause n lines text k p → ⊥) → text_refusal n lines text ≡ none
  none_refusal h = go (text_refusal n lines text) refl
    where
      go : (o : Option Refusal) → text_refusal n lines text ≡ o → text_refusal n lines text ≡ none
      go none e = e
      go (some r) e = absurd (h r.number r.place (refusal_first r e).applies)

-- a text that is too long is refused for that alone, whatever stands in it
pub too_long : (n : ℕ) (lines : Bool) (text : List ℕ) → is_alphabet n ≡ true → text_limit < length text → text_refusal n lines text ≡ some (record { number = 2; place = 0 })
unfolding text_refusal
too_long n lines text e h = rw (e, lt-ltb text_limit (length text) h)
