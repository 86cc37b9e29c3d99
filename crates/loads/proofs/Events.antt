-- Where a run of numbers, or words, is first broken (`specs/Causes`), place by place.
--   Upon k p l q  <-> number l at place q comes behind place p, or is k at p
--   RunEvent, WordEvent <-> of j numbers below a limit, or of k words, from p on: one is missing (10), or too big (4), at q
--   run_verdict, words_verdict : a broken run is broken at its first event; a whole one has none
--   run_tail, word_tail, word_between, word_listed : events and lists of numbers
-- Assumes nothing.
use mathlib.Core.Path.{◌≡◌, refl, sym, ◌∙◌, ap, subst}
use mathlib.Core.Logic.{◌⊎◌, inl, inr}
use mathlib.Core.Bool.{Bool, true, false, cond}
use mathlib.Core.Option.{Option, none, some}
use mathlib.Core.List.{List, [], ◌∷◌, ◌++◌, append_assoc}
use Prim.Native.Nat.{ℕ, zero, suc, ◌*◌, ◌≤◌, ◌<◌}
use native.Mathlib.Omega.{arith}
use lib.Dec.{ltb}
use lib.ListN.{length}
use borrow.Author.Tests.{ltb-true, ltb-false}
use Rattle.theory.specs.Files.{word_numbers}
use Rattle.runs.specs.Runs.{Run, broken, whole, broken_at, on_run, run_on, number_at, behind, numbers_at}
use Rattle.list_files.specs.ListFiles.{Words, stopped, read, on_words, letters_on, word_on, words_at}
use Rattle.loads.specs.Causes.{InWord, Unfinished}
use Rattle.loads.proofs.StandLaws.{
  Stand,
  end_from,
  same_number,
  no_number,
  stand_front,
  stand_back,
  stand_join,
  end_append,
  stand_one,
  behind_up,
  end_up,
}

abbrev pub Upon : ℕ → ℕ → ℕ → ℕ → Type 0
Upon k p l q = (p < q) ⊎ ((p ≡ q) × (k ≡ l))

-- ── Numbers ──

-- no number at p
abbrev pub Gap : List ℕ → ℕ → ℕ → ℕ → Type 0
Gap file p l q = (number_at file p ≡ none) × (l ≡ 10) × (q ≡ p)

abbrev pub RunEvent : ℕ → List ℕ → ℕ → ℕ → ℕ → ℕ → Type 0
RunEvent limit file p zero l q = ⊥
RunEvent limit file p (suc j) l q =
    Gap file p l q
    ⊎ ((x : ℕ) × (number_at file p ≡ some x) × (((limit ≤ x) × (l ≡ 4) × (q ≡ p)) ⊎ RunEvent limit file (behind p x) j l q))

module _ (limit : ℕ) (file : List ℕ) where
  pub event_up : (j p l q : ℕ) → RunEvent limit file p j l q → p ≤ q
  event_up zero p l q e = absurd e
  event_up (suc j) p l q (inl g) = omega (arith, g.2)
  event_up (suc j) p l q (inr (x, e, inl b)) = omega (arith, b.2)
  event_up (suc j) p l q (inr (x, e, inr v)) = omega (arith, behind_up p x, event_up j (behind p x) l q v)

  -- numbers that stand all the way end behind every event
  pub event_before : (j p l q : ℕ) (w : List ℕ) → RunEvent limit file p j l q → Stand file p w → length w ≡ j → q < end_from p w
  event_before zero p l q w e s h = absurd e
  event_before (suc j) p l q [] e s h = absurd (omega (arith, h))
  event_before (suc j) p l q (y ∷ w) (inl g) s h = no_number file p g.0 s.0
  event_before (suc j) p l q (y ∷ w) (inr (x, e, inl b)) s h = omega (arith, b.2, behind_up p y, end_up (behind p y) w)
  event_before (suc j) p l q (y ∷ w) (inr (x, e, inr v)) s h =
      event_before j (behind p y) l q w (subst (λ x. RunEvent limit file (behind p x) j l q) (same_number file p e s.0) v) s.1 (omega (arith, h))

  abbrev pub RunVerdict : ℕ → ℕ → Run → Type 0
  RunVerdict p j (broken r) =
      RunEvent limit file p j r.number r.place × ((l q : ℕ) → RunEvent limit file p j l q → Upon r.number r.place l q)
  RunVerdict p j (whole w z) = ((l q : ℕ) → RunEvent limit file p j l q → ⊥) × Stand file p w × (z ≡ end_from p w) × (length w ≡ j)

  -- a number below the limit, and what is behind it
  on_verdict : (p j x : ℕ) (r : Run) → number_at file p ≡ some x → x < limit → RunVerdict (behind p x) j r → RunVerdict p (suc j) (on_run x r)
  on_verdict p j x (broken r) e b v = (inr (x, e, inr v.0), upon)
    where
      upon : (l q : ℕ) → RunEvent limit file p (suc j) l q → Upon r.number r.place l q
      upon l q (inl g) = no_number file p g.0 e
      upon l q (inr (y, f, inl c)) = absurd (omega (arith, b, c.0, same_number file p e f))
      upon l q (inr (y, f, inr w)) = v.1 l q (subst (λ x. RunEvent limit file (behind p x) j l q) (same_number file p f e) w)
  on_verdict p j x (whole w z) e b v = (clear, (e, v.1), v.2, ap suc v.3)
    where
      clear : (l q : ℕ) → RunEvent limit file p (suc j) l q → ⊥
      clear l q (inl g) = no_number file p g.0 e
      clear l q (inr (y, f, inl c)) = omega (arith, b, c.0, same_number file p e f)
      clear l q (inr (y, f, inr w)) = v.0 l q (subst (λ x. RunEvent limit file (behind p x) j l q) (same_number file p f e) w)

  run_next : (p j : ℕ) (o : Option ℕ) (rest : ℕ → Run) → number_at file p ≡ o → ((q : ℕ) → RunVerdict q j (rest q))
      → RunVerdict p (suc j) (run_on limit p o rest)
  run_next p j none rest e v = (inl (e, refl, refl), upon)
    where
      upon : (l q : ℕ) → RunEvent limit file p (suc j) l q → Upon 10 p l q
      upon l q (inl g) = inr (sym g.2, sym g.1)
      upon l q (inr (y, f, w)) = no_number file p e f
  run_next p j (some x) rest e v = go (ltb x limit) refl
    where
      go : (b : Bool) → ltb x limit ≡ b → RunVerdict p (suc j) (cond b (on_run x (rest (behind p x))) (broken_at 4 p))
      go true f = on_verdict p j x (rest (behind p x)) e (ltb-true x limit f) (v (behind p x))
      go false f = (inr (x, e, inl (ltb-false x limit f, refl, refl)), upon)
        where
          upon : (l q : ℕ) → RunEvent limit file p (suc j) l q → Upon 4 p l q
          upon l q (inl g) = no_number file p g.0 e
          upon l q (inr (y, g, inl c)) = inr (sym c.2, sym c.1)
          upon l q (inr (y, g, inr w)) = inl (omega (arith, behind_up p y, event_up j (behind p y) l q w))

  pub run_verdict : (j p : ℕ) → RunVerdict p j (numbers_at limit file p j)
  unfolding numbers_at
  run_verdict zero p = ((λ l q e. e), tt, refl, refl)
  run_verdict (suc j) p = run_next p j (number_at file p) (λ q. numbers_at limit file q j) refl (λ q. run_verdict j q)

  -- what stands at the end of some numbers
  abbrev pub Tail : ℕ → ℕ → Type 0
  Tail l q = ((number_at file q ≡ none) × (l ≡ 10)) ⊎ ((y : ℕ) × (number_at file q ≡ some y) × (limit ≤ y) × (l ≡ 4))

  pub run_tail : (w : List ℕ) (j p l : ℕ) → length w < j → Stand file p w → Tail l (end_from p w) → RunEvent limit file p j l (end_from p w)
  run_tail w zero p l h s t = absurd (omega arith)
  run_tail [] (suc j) p l h s (inl t) = inl (t.0, t.1, refl)
  run_tail [] (suc j) p l h s (inr (y, e, b, f)) = inr (y, e, inl (b, f, refl))
  run_tail (x ∷ w) (suc j) p l h s t = inr (x, s.0, inr (run_tail w j (behind p x) l (omega arith) s.1 t))

  pub record Ended (p j l q : ℕ) : Type 0 where
    pub before : List ℕ
    pub few : length before < j
    pub stand : Stand file p before
    pub place : q ≡ end_from p before
    pub tail : Tail l q

  pub run_ended : (j p l q : ℕ) → RunEvent limit file p j l q → Ended p j l q
  run_ended zero p l q e = absurd e
  run_ended (suc j) p l q (inl g) =
      record { before = []; few = omega arith; stand = tt; place = g.2; tail = inl (subst (λ z. number_at file z ≡ none) (sym g.2) g.0, g.1) }
  run_ended (suc j) p l q (inr (x, e, inl b)) =
      record { before = []; few = omega arith; stand = tt; place = b.2; tail = inr (x, subst (λ z. number_at file z ≡ some x) (sym b.2) e, b.0, b.1) }
  run_ended (suc j) p l q (inr (x, e, inr v)) =
      let r = run_ended j (behind p x) l q v in
      record { before = x ∷ r.before; few = omega (arith, r.few); stand = (e, r.stand); place = r.place; tail = r.tail }

-- ── Words ──

abbrev pub WordEvent : ℕ → List ℕ → ℕ → ℕ → ℕ → ℕ → Type 0
WordEvent n file p zero l q = ⊥
WordEvent n file p (suc k) l q =
    Gap file p l q
    ⊎ ((c : ℕ) × (number_at file p ≡ some c)
    × (RunEvent (2 * n) file (behind p c) c l q
    ⊎ ((w : List ℕ) × (length w ≡ c) × Stand file (behind p c) w × WordEvent n file (end_from (behind p c) w) k l q)))

module _ (n : ℕ) (file : List ℕ) where
  pub words_up : (k p l q : ℕ) → WordEvent n file p k l q → p ≤ q
  words_up zero p l q e = absurd e
  words_up (suc k) p l q (inl g) = omega (arith, g.2)
  words_up (suc k) p l q (inr (c, e, inl v)) = omega (arith, behind_up p c, event_up (2 * n) file c (behind p c) l q v)
  words_up (suc k) p l q (inr (c, e, inr (w, h, s, v))) =
      omega (arith, behind_up p c, end_up (behind p c) w, words_up k (end_from (behind p c) w) l q v)

  abbrev pub WordsVerdict : ℕ → ℕ → Words → Type 0
  WordsVerdict p k (stopped r) =
      WordEvent n file p k r.number r.place × ((l q : ℕ) → WordEvent n file p k l q → Upon r.number r.place l q)
  WordsVerdict p k (read ws z) =
      ((l q : ℕ) → WordEvent n file p k l q → ⊥) × Stand file p (word_numbers ws) × (z ≡ end_from p (word_numbers ws)) × (length ws ≡ k)

  -- an event behind a word that stands
  module _ (p k c : ℕ) (e : number_at file p ≡ some c) (w : List ℕ) (h : length w ≡ c) (s : Stand file (behind p c) w)
      (none_in : (l q : ℕ) → RunEvent (2 * n) file (behind p c) c l q → ⊥) where
    behind_word : (l q : ℕ) → WordEvent n file p (suc k) l q → WordEvent n file (end_from (behind p c) w) k l q
    behind_word l q (inl g) = no_number file p g.0 e
    behind_word l q (inr (d, f, inl v)) =
        absurd (none_in l q (subst (λ c. RunEvent (2 * n) file (behind p c) c l q) (same_number file p f e) v))
    behind_word l q (inr (d, f, inr (u, i, t, v))) =
        let z = same_number file p f e in
        let y = stand_one file (behind p c) u w (i ∙ z ∙ sym h) (subst (λ c. Stand file (behind p c) u) z t) s in
        subst (λ u. WordEvent n file (end_from (behind p c) u) k l q) y (subst (λ c. WordEvent n file (end_from (behind p c) u) k l q) z v)

    word_verdict : (v : Words) → WordsVerdict (end_from (behind p c) w) k v → WordsVerdict p (suc k) (on_words w v)
    unfolding word_numbers
    word_verdict (stopped r) a = (inr (c, e, inr (w, h, s, a.0)), λ l q v. a.1 l q (behind_word l q v))
    word_verdict (read ws z) a = (
      λ l q v. a.0 l q (behind_word l q v),
      (e ∙ ap some (sym h), subst (λ c. Stand file (behind p c) (w ++ word_numbers ws)) (sym h) (stand_join file (behind p c) w (word_numbers ws) s a.1)),
      a.2 ∙ sym (end_append (behind p c) w (word_numbers ws)) ∙ ap (λ c. end_from (behind p c) (w ++ word_numbers ws)) (sym h),
      ap suc a.3,
    )

  letters_verdict : (p k c : ℕ) (run : Run) (rest : ℕ → Words) → number_at file p ≡ some c → RunVerdict (2 * n) file (behind p c) c run
      → ((q : ℕ) → WordsVerdict q k (rest q)) → WordsVerdict p (suc k) (letters_on run rest)
  letters_verdict p k c (broken r) rest e v a = (inr (c, e, inl v.0), upon)
    where
      upon : (l q : ℕ) → WordEvent n file p (suc k) l q → Upon r.number r.place l q
      upon l q (inl g) = no_number file p g.0 e
      upon l q (inr (d, f, inl i)) = v.1 l q (subst (λ c. RunEvent (2 * n) file (behind p c) c l q) (same_number file p f e) i)
      upon l q (inr (d, f, inr (u, i, t, w))) =
          let z = same_number file p f e in
          inl (omega (
            arith,
            event_before (2 * n) file c (behind p c) r.number r.place u v.0 (subst (λ c. Stand file (behind p c) u) z t) (i ∙ z),
            words_up k (end_from (behind p c) u) l q (subst (λ c. WordEvent n file (end_from (behind p c) u) k l q) z w),
          ))
  letters_verdict p k c (whole w z) rest e v a =
      word_verdict p k c e w v.3 v.1 v.0 (rest z) (subst (λ q. WordsVerdict q k (rest z)) v.2 (a z))

  word_next : (p k : ℕ) (o : Option ℕ) (rest : ℕ → Words) → number_at file p ≡ o → ((q : ℕ) → WordsVerdict q k (rest q))
      → WordsVerdict p (suc k) (word_on n file p o rest)
  word_next p k none rest e a = (inl (e, refl, refl), upon)
    where
      upon : (l q : ℕ) → WordEvent n file p (suc k) l q → Upon 10 p l q
      upon l q (inl g) = inr (sym g.2, sym g.1)
      upon l q (inr (y, f, w)) = no_number file p e f
  word_next p k (some c) rest e a =
      letters_verdict p k c (numbers_at (2 * n) file (behind p c) c) rest e (run_verdict (2 * n) file c (behind p c)) a

  pub words_verdict : (k p : ℕ) → WordsVerdict p k (words_at n file p k)
  unfolding words_at word_numbers
  words_verdict zero p = ((λ l q e. e), tt, refl, refl)
  words_verdict (suc k) p = word_next p k (number_at file p) (λ q. words_at n file q k) refl (λ q. words_verdict k q)

  -- ── Lists of numbers ──

  -- behind whole words no number stands
  pub word_between : (ws : List (List ℕ)) (k p : ℕ) → length ws < k → Stand file p (word_numbers ws)
      → number_at file (end_from p (word_numbers ws)) ≡ none → WordEvent n file p k 10 (end_from p (word_numbers ws))
  unfolding word_numbers
  word_between ws zero p h s e = absurd (omega arith)
  word_between [] (suc k) p h s e = inl (e, refl, refl)
  word_between (w ∷ ws) (suc k) p h s e =
      let i = end_append (behind p (length w)) w (word_numbers ws) in
      subst (λ q. WordEvent n file p (suc k) 10 q) (sym i)
      (inr (
        length w,
        s.0,
        inr (
          w,
          refl,
          stand_front file (behind p (length w)) w (word_numbers ws) s.1,
          word_between ws k (end_from (behind p (length w)) w) (omega arith) (stand_back file (behind p (length w)) w (word_numbers ws) s.1)
              (subst (λ q. number_at file q ≡ none) i e),
        ),
      ))

  -- in a word a number is missing or too big
  pub word_tail : (ws : List (List ℕ)) (c : ℕ) (w : List ℕ) (k p l : ℕ) → length ws < k → length w < c → Stand file p (word_numbers ws ++ (c ∷ w))
      → Tail (2 * n) file l (end_from p (word_numbers ws ++ (c ∷ w))) → WordEvent n file p k l (end_from p (word_numbers ws ++ (c ∷ w)))
  unfolding word_numbers
  word_tail ws c w zero p l h g s t = absurd (omega arith)
  word_tail [] c w (suc k) p l h g s t = inr (c, s.0, inl (run_tail (2 * n) file w c (behind p c) l g s.1 t))
  word_tail (u ∷ ws) c w (suc k) p l h g s t =
      let a = append_assoc u (word_numbers ws) (c ∷ w) in
      let b = subst (Stand file (behind p (length u))) a s.1 in
      let i = ap (end_from (behind p (length u))) a ∙ end_append (behind p (length u)) u (word_numbers ws ++ (c ∷ w)) in
      subst (λ q. WordEvent n file p (suc k) l q) (sym i)
      (inr (
        length u,
        s.0,
        inr (
          u,
          refl,
          stand_front file (behind p (length u)) u (word_numbers ws ++ (c ∷ w)) b,
          word_tail ws c w k (end_from (behind p (length u)) u) l (omega arith) g (stand_back file (behind p (length u)) u (word_numbers ws ++ (c ∷ w)) b)
              (subst (Tail (2 * n) file l) i t),
        ),
      ))

  -- the numbers before an event: 10 behind unfinished ones, or 4 in a word
  pub data Listed (p k : ℕ) : ℕ → ℕ → Type 0 where
    missing : (xs : List ℕ) (q : ℕ) → Unfinished k xs → Stand file p xs → q ≡ end_from p xs → number_at file q ≡ none → Listed p k 10 q
    beyond : (xs : List ℕ) (y q : ℕ) → InWord k xs → Stand file p xs → q ≡ end_from p xs → number_at file q ≡ some y → 2 * n ≤ y → Listed p k 4 q

  in_first : (c : ℕ) (w : List ℕ) (k : ℕ) → length w < c → InWord (suc k) (c ∷ w)
  unfolding word_numbers
  in_first c w k h = ([], c, w, omega arith, h, refl)

  in_later : (u : List ℕ) (k : ℕ) (xs : List ℕ) → InWord k xs → InWord (suc k) (length u ∷ (u ++ xs))
  unfolding word_numbers
  in_later u k xs (ws, c, w, h, g, e) =
      (u ∷ ws, c, w, omega arith, g, ap (λ l. length u ∷ (u ++ l)) e ∙ ap (λ l. length u ∷ l) (sym (append_assoc u (word_numbers ws) (c ∷ w))))

  unfinished_later : (u : List ℕ) (k : ℕ) (xs : List ℕ) → Unfinished k xs → Unfinished (suc k) (length u ∷ (u ++ xs))
  unfolding word_numbers
  unfinished_later u k xs (inl (ws, h, e)) = inl (u ∷ ws, omega arith, ap (λ l. length u ∷ (u ++ l)) e)
  unfinished_later u k xs (inr h) = inr (in_later u k xs h)

  tail_listed : (p k c l q : ℕ) (e : number_at file p ≡ some c) (r : Ended (2 * n) file (behind p c) c l q) (t : Tail (2 * n) file l q) → Listed p (suc k) l q
  tail_listed p k c l q e r (inl (f, g)) =
      subst (λ l. Listed p (suc k) l q) (sym g)
      (missing (c ∷ r.before) q (inr (in_first c r.before k r.few)) (e, r.stand) r.place f)
  tail_listed p k c l q e r (inr (y, f, b, g)) =
      subst (λ l. Listed p (suc k) l q) (sym g) (beyond (c ∷ r.before) y q (in_first c r.before k r.few) (e, r.stand) r.place f b)

  listed_later : (p k c l q : ℕ) (w : List ℕ) → number_at file p ≡ some c → length w ≡ c → Stand file (behind p c) w
      → Listed (end_from (behind p c) w) k l q → Listed p (suc k) l q
  listed_later p k c l q w e h s (missing xs z u t f g) =
      missing (length w ∷ (w ++ xs)) z (unfinished_later w k xs u)
      (e ∙ ap some (sym h), subst (λ c. Stand file (behind p c) (w ++ xs)) (sym h) (stand_join file (behind p c) w xs s t))
      (f ∙ sym (end_append (behind p c) w xs) ∙ ap (λ c. end_from (behind p c) (w ++ xs)) (sym h)) g
  listed_later p k c l q w e h s (beyond xs y z u t f g b) =
      beyond (length w ∷ (w ++ xs)) y z (in_later w k xs u)
      (e ∙ ap some (sym h), subst (λ c. Stand file (behind p c) (w ++ xs)) (sym h) (stand_join file (behind p c) w xs s t))
      (f ∙ sym (end_append (behind p c) w xs) ∙ ap (λ c. end_from (behind p c) (w ++ xs)) (sym h)) g b

  pub word_listed : (k p l q : ℕ) → WordEvent n file p k l q → Listed p k l q
  unfolding word_numbers
  word_listed zero p l q e = absurd e
  word_listed (suc k) p l q (inl g) =
      subst (λ l. Listed p (suc k) l q) (sym g.1)
      (missing [] q (inl ([], omega arith, refl)) tt g.2 (subst (λ z. number_at file z ≡ none) (sym g.2) g.0))
  word_listed (suc k) p l q (inr (c, e, inl v)) =
      let r = run_ended (2 * n) file c (behind p c) l q v in tail_listed p k c l q e r r.tail
  word_listed (suc k) p l q (inr (c, e, inr (w, h, s, v))) =
      listed_later p k c l q w e h s (word_listed k (end_from (behind p c) w) l q v)
