-- Laws of `push` and of the turns of `reduce`, on plain values (`specs/Reduction`).
--   pushed_gone, pushed_stays : what `push` did is what `Pushed` says, in its two cases
--   reduce-turn : after one letter more the cells hold the reduction of one letter more
-- Assumes nothing.
use mathlib.Core.Path.{◌≡◌, refl, sym, ◌∙◌, ap, subst}
use mathlib.Core.Logic.{by_cases}
use mathlib.Core.Bool.{true, false}
use mathlib.Core.List.{List, [], ◌∷◌, ◌++◌, append_assoc}
use Prim.Native.Nat.{ℕ, zero, suc, ◌+◌, ◌-◌, ◌≤◌, ◌<◌}
use native.Mathlib.Decide.{dec_lt}
use native.Mathlib.Numerals.{add-one}
use native.Mathlib.Omega.{arith}
use lib.ListN.{length, get_or, drop, set, replicate, length-append, length-replicate}
use lib.Seq.{drop-cons, set_at, get_or-set_other}
use borrow.Author.Tests.{eq-eqb, ne_eqb, lt-ltb, le-ltb}
use Rattle.theory.specs.Words.{inv, put, reduced_by, reduced, Reduced}
use Rattle.theory.proofs.WordLaws.{letters, reduced_none, reduced_idem, append_cong, snoc_gone, snoc_kept}
use Rattle.theory.proofs.StartLaws.{reduced_shorter}
use Rattle.words.specs.Reduction.{reduced_cells, is_gone, Pushed}

gone_yes : (work : List ℕ) (top y : ℕ) → 0 < top → get_or work (top - 1) 0 ≡ inv y → is_gone work top y ≡ true
unfolding is_gone
gone_yes work top y h e = rw (lt-ltb 0 top h, eq-eqb (get_or work (top - 1) 0) (inv y) e)

gone_no : (work : List ℕ) (top y : ℕ) → (0 < top → get_or work (top - 1) 0 ≡ inv y → ⊥) → is_gone work top y ≡ false
unfolding is_gone
gone_no work top y h =
    by_cases (dec_lt 0 top) (λ k. rw (lt-ltb 0 top k, ne_eqb (get_or work (top - 1) 0) (inv y) (h k)))
    (λ k. rw (le-ltb 0 top (omega arith)))

module _ (work : List ℕ) (top i y : ℕ) (low : top ≤ i) where
  -- the last letter is not the cell that is cleared first
  last_kept : 0 < top → get_or (set work i 0) (top - 1) 0 ≡ get_or work (top - 1) 0
  last_kept h = get_or-set_other work i (top - 1) 0 0 (λ e. omega arith)

  pub pushed_gone : 0 < top → get_or (set work i 0) (top - 1) 0 ≡ inv y → Pushed work top i y (top - 1) (set (set work i 0) (top - 1) 0)
  pushed_gone h e =
      let g = gone_yes work top y h (sym (last_kept h) ∙ e) in record { left = rw g; cells = rw g }

  pub pushed_stays : (0 < top → get_or (set work i 0) (top - 1) 0 ≡ inv y → ⊥) → Pushed work top i y (top + 1) (set (set work i 0) top y)
  pushed_stays h =
      let g = gone_no work top y (λ k e. h k (last_kept k ∙ e)) in record { left = rw g; cells = rw g }

-- ── One letter more ──

-- the cells after a word, from its reduction and the number of letters that went
cells_as : (w work r : List ℕ) (k : ℕ) → reduced w ≡ r → length w ≡ length r + k → reduced_cells w work ≡ r ++ replicate k 0 ++ drop (length w) work
unfolding reduced_cells
cells_as w work r k e h = rw (e, went)
  where
    went : length w - length r ≡ k
    went = omega arith

-- zeros, then one more
zeros_more : (k : ℕ) (l : List ℕ) → replicate k 0 ++ (0 ∷ l) ≡ replicate (suc k) 0 ++ l
zeros_more zero l = refl
zeros_more (suc k) l = ap (λ m. 0 ∷ m) (zeros_more k l)

-- clearing the next cell takes it from the kept ones to the zeros
cleared : (w work : List ℕ) → length w < length work → set (reduced_cells w work) (length w) 0 ≡ reduced w ++ replicate (suc (length w - length (reduced w))) 0 ++ drop (suc (length w)) work
unfolding reduced_cells
cleared w work h =
    ap (λ l. set (reduced w ++ replicate (length w - length (reduced w)) 0 ++ l) (length w) 0) (drop-cons work (length w) 0 h)
    ∙ set_at (reduced w ++ replicate (length w - length (reduced w)) 0) (get_or work (length w) 0) (drop (suc (length w)) work) 0 (length w)
    (length-append (reduced w) (replicate (length w - length (reduced w)) 0) ∙ (rw length-replicate (omega (arith, reduced_shorter w))))
    ∙ append_assoc (reduced w) (replicate (length w - length (reduced w)) 0) (0 ∷ drop (suc (length w)) work)
    ∙ ap (λ l. reduced w ++ l) (zeros_more (length w - length (reduced w)) (drop (suc (length w)) work))
    ∙ sym (append_assoc (reduced w) (replicate (suc (length w - length (reduced w))) 0) (drop (suc (length w)) work))

-- a list that is not empty, by its last element
pub record Ended (l : List ℕ) : Type 0 where
  pub start : List ℕ
  pub last : ℕ
  pub is : l ≡ start ++ (last ∷ [])

pub ended : (l : List ℕ) → 0 < length l → Ended l
ended [] h = absurd (omega arith)
ended (x ∷ []) h = record { start = []; last = x; is = refl }
ended (x ∷ (z ∷ l)) h = let m = ended (z ∷ l) (omega arith) in record { start = x ∷ m.start; last = m.last; is = ap (λ k. x ∷ k) m.is }

module _ (w work : List ℕ) (y : ℕ) (room : length w < length work) where
  -- the letters that went so far, the cells that no letter took
  abbrev went : ℕ
  went = length w - length (reduced w)

  abbrev rest : List ℕ
  rest = drop (suc (length w)) work

  longer : length (w ++ (y ∷ [])) ≡ suc (length w)
  longer = length-append w (y ∷ []) ∙ add-one (length w)

  -- reducing one letter more goes on from the reduction
  reduced_more : reduced (w ++ (y ∷ [])) ≡ reduced (reduced w ++ (y ∷ []))
  reduced_more = append_cong letters w (reduced w) (y ∷ []) (y ∷ []) (sym (reduced_idem letters w)) refl

  -- the cells of one letter more
  cells_more : (r : List ℕ) (k : ℕ) → reduced (w ++ (y ∷ [])) ≡ r → suc (length w) ≡ length r + k → reduced_cells (w ++ (y ∷ [])) work ≡ r ++ replicate k 0 ++ rest
  cells_more r k e h =
      cells_as (w ++ (y ∷ [])) work r k e (longer ∙ h) ∙ ap (λ j. r ++ replicate k 0 ++ drop j work) longer

  -- a letter that goes with the last one
  pub more_gone : (s : List ℕ) (x : ℕ) → reduced w ≡ s ++ (x ∷ []) → x ≡ inv y
      → (length s ≡ length (reduced (w ++ (y ∷ [])))) × (set (set (reduced_cells w work) (length w) 0) (length s) 0 ≡ reduced_cells (w ++ (y ∷ [])) work)
  more_gone s x e g = (sym (ap length is), after)
    where
      back : y ≡ inv x
      back = sym (letters.twice y) ∙ ap inv (sym g)

      is : reduced (w ++ (y ∷ [])) ≡ s
      is =
          reduced_more ∙ ap (λ l. reduced (l ++ (y ∷ []))) e
          ∙ snoc_gone letters s x y (subst Reduced e (reduced_none letters w)) back

      sizes : length (reduced w) ≡ suc (length s)
      sizes = ap length e ∙ length-append s (x ∷ []) ∙ add-one (length s)

      after : set (set (reduced_cells w work) (length w) 0) (length s) 0 ≡ reduced_cells (w ++ (y ∷ [])) work
      after =
          ap (λ l. set l (length s) 0)
          (cleared w work room ∙ ap (λ l. l ++ replicate (suc went) 0 ++ rest) e ∙ grouped)
          ∙ set_at s x (replicate (suc went) 0 ++ rest) 0 (length s) refl
          ∙ sym (cells_more s (suc (suc went)) is (omega (arith, sizes, reduced_shorter w)) ∙ append_assoc s (replicate (suc (suc went)) 0) rest)
        where
          grouped : (s ++ (x ∷ [])) ++ replicate (suc went) 0 ++ rest ≡ s ++ (x ∷ (replicate (suc went) 0 ++ rest))
          grouped = simp append_assoc

  -- a letter that stays
  pub more_stays : ((s : List ℕ) (x : ℕ) → reduced w ≡ s ++ (x ∷ []) → x ≡ inv y → ⊥)
      → (length (reduced w) + 1 ≡ length (reduced (w ++ (y ∷ [])))) × (set (set (reduced_cells w work) (length w) 0) (length (reduced w)) y ≡ reduced_cells (w ++ (y ∷ [])) work)
  more_stays n = (sym (ap length is ∙ length-append (reduced w) (y ∷ [])), after)
    where
      kept : (l : List ℕ) → reduced w ≡ l → reduced (l ++ (y ∷ [])) ≡ l ++ (y ∷ [])
      kept [] e = unfold reduced_by put in refl
      kept (a ∷ l) e =
          let m = ended (a ∷ l) (omega arith) in
          subst (λ k. reduced (k ++ (y ∷ [])) ≡ k ++ (y ∷ [])) (sym m.is)
          (snoc_kept letters m.start m.last y (subst Reduced (e ∙ m.is) (reduced_none letters w))
          (λ b. n m.start m.last (e ∙ m.is) (sym (letters.twice m.last) ∙ ap inv (sym b))))

      is : reduced (w ++ (y ∷ [])) ≡ reduced w ++ (y ∷ [])
      is = reduced_more ∙ kept (reduced w) refl

      after : set (set (reduced_cells w work) (length w) 0) (length (reduced w)) y ≡ reduced_cells (w ++ (y ∷ [])) work
      after =
          ap (λ l. set l (length (reduced w)) y) (cleared w work room ∙ append_assoc (reduced w) (replicate (suc went) 0) rest)
          ∙ set_at (reduced w) 0 (replicate went 0 ++ rest) y (length (reduced w)) refl
          ∙ sym (cells_more (reduced w ++ (y ∷ [])) went is (omega (arith, length-append (reduced w) (y ∷ []), reduced_shorter w)) ∙ grouped)
        where
          grouped : (reduced w ++ (y ∷ [])) ++ replicate went 0 ++ rest ≡ reduced w ++ (y ∷ (replicate went 0 ++ rest))
          grouped = simp append_assoc
