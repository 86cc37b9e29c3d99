-- The turns of `reduce` on plain values: the cells hold the reduction of the letters read so far.
-- Assumes nothing.
use mathlib.Core.Path.{◌≡◌, refl, sym, ◌∙◌, ap, subst}
use mathlib.Core.Bool.{true, false, true≢false}
use mathlib.Core.List.{List, [], ◌∷◌, ◌++◌, append_assoc}
use Prim.Native.Nat.{ℕ, suc, ◌+◌, ◌-◌, ◌≤◌, ◌<◌}
use native.Mathlib.Numerals.{add-one}
use native.Mathlib.Omega.{arith}
use lib.Dec.{eqb, ltb}
use lib.ListN.{length, get_or, take, drop, set, replicate, length-append, length-replicate}
use lib.Seq.{take-suc, take-length, get_or_at, length-take-le, drop-append-add, drop-drop}
use borrow.Author.Tests.{eqb-true, eq-eqb, lt-ltb, ltb-true}
use Rattle.theory.specs.Words.{inv, reduced_by, reduced}
use Rattle.theory.specs.Letters.{letter_of, word_length, first_word}
use Rattle.theory.proofs.WordLaws.{by_test}
use Rattle.theory.proofs.RefusalLaws.{and_true}
use Rattle.theory.proofs.StartLaws.{reduced_shorter}
use Rattle.theory.proofs.TextLaws.{length-first_word, first_word_at}
use Rattle.words.specs.Reduction.{reduced_cells, is_gone, Pushed, ReducedInto}
use Rattle.words.proofs.PushLaws.{Ended, ended, more_gone, more_stays}

-- `top` letters are left of w, and the cells hold them
pub record Held (w work : List ℕ) (top : ℕ) (cells : List ℕ) : Type 0 where
  pub left : top ≡ length (reduced w)
  pub after : cells ≡ reduced_cells w work

pub held_first : (work : List ℕ) → Held [] work 0 work
held_first work = record { left = unfold reduced_by in refl; after = unfold reduced_cells reduced_by in refl }

-- the cells start with the reduction
cells_last : (w work s : List ℕ) (x : ℕ) → reduced w ≡ s ++ (x ∷ []) → get_or (reduced_cells w work) (length s) 0 ≡ x
unfolding reduced_cells
cells_last w work s x e =
    starts (reduced w) e (replicate (length w - length (reduced w)) 0) (drop (length w) work)
  where
    starts : (l : List ℕ) → l ≡ s ++ (x ∷ []) → (k d : List ℕ) → get_or (l ++ k ++ d) (length s) 0 ≡ x
    starts l e k d = rw e (simp append_assoc (get_or_at s x (k ++ d) 0 (length s) refl))

-- what `push` did to the cells of a word is what one letter more does
pub held_push : (w work : List ℕ) (y top r : ℕ) (cells after : List ℕ) → length w < length work → Held w work top cells → Pushed cells top (length w) y r after → Held (w ++ (y ∷ [])) work r after
unfolding is_gone
held_push w work y top r cells after room h p = by_test (is_gone cells top y) gone stays
  where
    size : (s : List ℕ) (x : ℕ) → reduced w ≡ s ++ (x ∷ []) → top ≡ suc (length s)
    size s x e = h.left ∙ ap length e ∙ length-append s (x ∷ []) ∙ add-one (length s)

    last : (s : List ℕ) (x : ℕ) → reduced w ≡ s ++ (x ∷ []) → get_or cells (top - 1) 0 ≡ x
    last s x e =
        ap (λ l. get_or l (top - 1) 0) h.after
        ∙ ap (λ k. get_or (reduced_cells w work) k 0) (omega (arith, size s x e))
        ∙ cells_last w work s x e

    gone : is_gone cells top y ≡ true → Held (w ++ (y ∷ [])) work r after
    gone t =
        record {
          left = p.left ∙ (rw t) ∙ small ∙ m.0;
          after = p.cells ∙ (rw t) ∙ ap (λ k. set (set cells (length w) 0) k 0) small ∙ ap (λ l. set (set l (length w) 0) (length e.start) 0) h.after ∙ m.1;
        }
      where
        both : (ltb 0 top ≡ true) × (eqb (get_or cells (top - 1) 0) (inv y) ≡ true)
        both = and_true (ltb 0 top) (eqb (get_or cells (top - 1) 0) (inv y)) t

        e : Ended (reduced w)
        e = ended (reduced w) (omega (arith, ltb-true 0 top both.0, h.left))

        small : top - 1 ≡ length e.start
        small = omega (arith, size e.start e.last e.is)

        m : (length e.start ≡ length (reduced (w ++ (y ∷ [])))) × (set (set (reduced_cells w work) (length w) 0) (length e.start) 0 ≡ reduced_cells (w ++ (y ∷ [])) work)
        m = more_gone w work y room e.start e.last e.is (sym (last e.start e.last e.is) ∙ eqb-true (get_or cells (top - 1) 0) (inv y) both.1)

    stays : is_gone cells top y ≡ false → Held (w ++ (y ∷ [])) work r after
    stays t =
        record {
          left = p.left ∙ (rw t) ∙ ap (λ k. k + 1) h.left ∙ m.0;
          after = p.cells ∙ (rw t) ∙ ap (λ k. set (set cells (length w) 0) k y) h.left ∙ ap (λ l. set (set l (length w) 0) (length (reduced w)) y) h.after ∙ m.1;
        }
      where
        n : (s : List ℕ) (x : ℕ) → reduced w ≡ s ++ (x ∷ []) → x ≡ inv y → ⊥
        n s x e g = true≢false (sym yes' ∙ t)
          where
            yes' : is_gone cells top y ≡ true
            yes' = rw (lt-ltb 0 top (omega (arith, size s x e)), eq-eqb (get_or cells (top - 1) 0) (inv y) (last s x e ∙ g))

        m : (length (reduced w) + 1 ≡ length (reduced (w ++ (y ∷ [])))) × (set (set (reduced_cells w work) (length w) 0) (length (reduced w)) y ≡ reduced_cells (w ++ (y ∷ [])) work)
        m = more_stays w work y room n

-- ── The loop ──

-- i letters of the word are read: the cells hold the reduction of these
module _ (part work : List ℕ) {top i : ℕ} {cells : List ℕ} (h : Held (take i (first_word part)) work top cells) where
  -- `top` never passes the letters read
  pub head_low : i ≤ word_length part → top ≤ i
  head_low l =
      omega (arith, h.left, reduced_shorter (take i (first_word part)), length-take-le i (first_word part) (omega (arith, length-first_word part)))

  pub head_turn : {y r : ℕ} {after : List ℕ} → i < word_length part → word_length part ≤ length work → y ≡ letter_of (get_or part i 0) → Pushed cells top i y r after → Held (take (i + 1) (first_word part)) work r after
  head_turn {y} {r} {after} l room e p =
      subst (λ w. Held w work r after) (sym more) (held_push (take i w) work y top r cells after (omega (arith, size, room)) h (subst (λ j. Pushed cells top j y r after) (sym size) p))
    where
      w : List ℕ
      w = first_word part

      fits : i < length w
      fits = omega (arith, length-first_word part)

      size : length (take i w) ≡ i
      size = length-take-le i w (omega (arith, fits))

      more : take (i + 1) w ≡ take i w ++ (y ∷ [])
      more = ap (λ j. take j w) (add-one i) ∙ take-suc w i 0 fits ∙ ap (λ x. take i w ++ (x ∷ [])) (first_word_at part i l ∙ sym e)

  pub head_done : {read : ℕ} → read ≡ word_length part → i ≡ read → ReducedInto part work (record { read = read; left = top }) cells
  head_done {read} e l =
      record { read = e; left = h.left ∙ ap (λ w. length (reduced w)) all; cells = h.after ∙ ap (λ w. reduced_cells w work) all }
    where
      all : take i (first_word part) ≡ first_word part
      all = ap (λ k. take k (first_word part)) (l ∙ e ∙ sym (length-first_word part)) ∙ take-length (first_word part)

-- ── For callers ──

-- cells behind those of the word are kept
pub cells_kept : (w work : List ℕ) (k : ℕ) → length w ≤ k → drop k (reduced_cells w work) ≡ drop k work
unfolding reduced_cells
cells_kept w work k h =
    ap (λ j. drop j (start ++ drop (length w) work)) split
    ∙ drop-append-add start (drop (length w) work) (k - length w)
    ∙ drop-drop (k - length w) (length w) work
    ∙ ap (λ j. drop j work) whole
  where
    start : List ℕ
    start = reduced w ++ replicate (length w - length (reduced w)) 0

    split : k ≡ length start + (k - length w)
    split = omega (arith, length-append (reduced w) (replicate (length w - length (reduced w)) 0), length-replicate {A = ℕ} (length w - length (reduced w)) 0, reduced_shorter w, h)

    whole : length w + (k - length w) ≡ k
    whole = omega arith
