-- The steps of loading a list (`Steps`): its numbers, the end, its text.
--   words_stopped, words_whole : the numbers of the words
--   words_over, words_ended    : bytes behind them
--   text_over, text_within     : the limit of a text
--   space_short, space_enough  : the lent text
-- Assumes nothing.
use mathlib.Core.Path.{◌≡◌, refl, sym, ◌∙◌, ap, subst}
use mathlib.Core.Logic.{inr}
use mathlib.Core.Option.{some}
use mathlib.Core.List.{List, [], ◌∷◌, ◌++◌}
use Prim.Native.Nat.{ℕ, ◌≤◌, ◌<◌}
use native.Mathlib.Omega.{arith}
use lib.ListN.{length}
use Rattle.theory.specs.Files.{word_numbers}
use Rattle.theory.specs.Refusals.{Refusal as FirstCause, text_limit}
use Rattle.theory.specs.Texts.{list_text}
use Rattle.runs.specs.Runs.{number_at}
use Rattle.list_files.specs.ListFiles.{stopped, read}
use Rattle.loads.specs.Causes.{FileCause, number_missing, letter_beyond, words_end, text_long, text_narrow}
use Rattle.loads.proofs.StandLaws.{Stand, end_from, starts_of_stand, end_is, missing_of, stand_join}
use Rattle.loads.proofs.Events.{Upon, WordEvent, WordsVerdict, Listed, missing, beyond, word_listed}
use Rattle.loads.proofs.FirstCauses.{
  list_run,
  AtNumbers,
  no_cell,
  in_words,
  AtEnd,
  cells_more,
  words_more,
  AtFault,
  bad_cell,
  long_text,
  AtSpace,
  short_text,
  clear_next,
}
use Rattle.loads.proofs.Steps.{words_stand_one, third, Three, from_three, to_three, Cleared, Leasts}

module _ (file : List ℕ) (cells space n k : ℕ) (h : Three file 2 n k) where
  -- a table's file is another
  no_table : {A : Type 0} (m M : ℕ) (xs : List ℕ) → Stand file 0 (1 ∷ m ∷ M ∷ xs) → A
  no_table m M xs s = absurd (omega (arith, (from_three h 1 m M xs s).0))

  word_event : (m j l q : ℕ) → Stand file 0 (2 ∷ m ∷ j ∷ []) → WordEvent m file (end_from 0 (2 ∷ m ∷ j ∷ [])) j l q
      → WordEvent n file (third 2 n k) k l q
  word_event m j l q s w =
      let t = from_three h 2 m j [] s in
      subst (λ j. WordEvent n file (third 2 n j) j l q) t.2 (subst (λ m. WordEvent m file (third 2 m j) j l q) t.1 w)

  module _ (c3 : Cleared file cells space 3) where
    listed_cause : (l q : ℕ) → Listed n file (third 2 n k) k l q → FileCause file cells space 3 l q
    listed_cause l q (missing xs z u s f g) = number_missing n k z xs u (missing_of (2 ∷ n ∷ k ∷ xs) (to_three h xs s) f g)
    listed_cause l q (beyond xs y z u s f g b) =
        letter_beyond n k z y xs u
        (starts_of_stand (2 ∷ n ∷ k ∷ (xs ++ (y ∷ [])))
        (to_three h (xs ++ (y ∷ [])) (stand_join file (third 2 n k) xs (y ∷ []) s (subst (λ z. number_at file z ≡ some y) f g, tt))))
        b (f ∙ end_is (2 ∷ n ∷ k ∷ xs))

    pub words_stopped : (r : FirstCause) → WordsVerdict n file (third 2 n k) k (stopped r) → Leasts file cells space 3 r.number r.place
    words_stopped r v =
        record {
          applies = listed_cause r.number r.place (word_listed n file k (third 2 n k) r.number r.place v.0);
          clear = c3;
          upon = upon;
        }
      where
        upon : (l q : ℕ) → AtNumbers file cells space l q → Upon r.number r.place l q
        upon l q (no_cell m M z xs b s f g) = no_table m M xs s
        upon l q (in_words m j a z s w) = v.1 a z (word_event m j a z s w)

    pub words_whole : (ws : List (List ℕ)) (z : ℕ) → WordsVerdict n file (third 2 n k) k (read ws z) → Cleared file cells space 4
    words_whole ws z v = clear_next file cells space 3 c3 gone
      where
        gone : (l q : ℕ) → AtNumbers file cells space l q → ⊥
        gone l q (no_cell m M y xs b s f g) = no_table m M xs s
        gone l q (in_words m j a y s w) = v.0 a y (word_event m j a y s w)

  module _ (ws : List (List ℕ)) (z : ℕ) (st : Stand file (third 2 n k) (word_numbers ws)) (is : z ≡ end_from (third 2 n k) (word_numbers ws)) (many : length ws ≡ k) where
    -- the numbers of this list's file
    here : Stand file 0 (list_run n ws)
    here = subst (λ k. Stand file 0 (2 ∷ n ∷ k ∷ word_numbers ws)) (sym many) (to_three h (word_numbers ws) st)

    -- words that some cause speaks of are those here
    same_words : (m : ℕ) (us : List (List ℕ)) → Stand file 0 (list_run m us) → (m ≡ n) × (us ≡ ws)
    same_words m us s =
        let t = from_three h 2 m (length us) (word_numbers us) s in
        (t.1, words_stand_one file (third 2 n k) us ws (t.2 ∙ sym many) t.3 st)

    end_here : end_from 0 (list_run n ws) ≡ z
    end_here = ap (λ k. end_from (third 2 n k) (word_numbers ws)) many ∙ sym is

    same_end : (m : ℕ) (us : List (List ℕ)) → Stand file 0 (list_run m us) → end_from 0 (list_run m us) ≡ z
    same_end m us s =
        let t = same_words m us s in
        ap (λ m. end_from 0 (list_run m us)) t.0 ∙ ap (λ us. end_from 0 (list_run n us)) t.1 ∙ end_here

    module _ (c4 : Cleared file cells space 4) where
      pub words_over : z < length file → Leasts file cells space 4 12 z
      words_over b =
          record {
            applies = words_end n z ws (starts_of_stand (list_run n ws) here)
                (sym end_here ∙ end_is (list_run n ws), subst (λ z. z < length file) (sym end_here ∙ end_is (list_run n ws)) b);
            clear = c4;
            upon = upon;
          }
        where
          upon : (l q : ℕ) → AtEnd file cells space l q → Upon 12 z l q
          upon l q (cells_more m M y us b s f) = no_table m M us s
          upon l q (words_more m y us s f) = inr (sym (f.0 ∙ same_end m us s), refl)

      pub words_ended : length file ≤ z → Cleared file cells space 5
      words_ended b = clear_next file cells space 4 c4 gone
        where
          gone : (l q : ℕ) → AtEnd file cells space l q → ⊥
          gone l q (cells_more m M y us d s f) = no_table m M us s
          gone l q (words_more m y us s f) = omega (arith, f.1, b, same_end m us s)

    module _ (c5 : Cleared file cells space 5) where
      pub text_over : text_limit < length (list_text ws) → Leasts file cells space 5 2 0
      text_over b = record { applies = text_long n 0 ws (starts_of_stand (list_run n ws) here) (refl, b); clear = c5; upon = upon }
        where
          upon : (l q : ℕ) → AtFault file cells space l q → Upon 2 0 l q
          upon l q (bad_cell m M y us b s c) = no_table m M us s
          upon l q (long_text m y us s c) = inr (sym c.0, refl)

      pub text_within : length (list_text ws) ≤ text_limit → Cleared file cells space 6
      text_within b = clear_next file cells space 5 c5 gone
        where
          gone : (l q : ℕ) → AtFault file cells space l q → ⊥
          gone l q (bad_cell m M y us d s c) = no_table m M us s
          gone l q (long_text m y us s c) = omega (arith, c.1, b, ap (λ us. length (list_text us)) (same_words m us s).1)

    module _ (c6 : Cleared file cells space 6) where
      pub space_short : space < length (list_text ws) → Leasts file cells space 6 9 (length (list_text ws))
      space_short b =
          record { applies = text_narrow n (length (list_text ws)) ws (starts_of_stand (list_run n ws) here) (refl, b); clear = c6; upon = upon }
        where
          upon : (l q : ℕ) → AtSpace file cells space l q → Upon 9 (length (list_text ws)) l q
          upon l q (short_text m y us s c) = inr (sym (c.0 ∙ ap (λ us. length (list_text us)) (same_words m us s).1), refl)

      pub space_enough : length (list_text ws) ≤ space → Cleared file cells space 7
      space_enough b = clear_next file cells space 6 c6 gone
        where
          gone : (l q : ℕ) → AtSpace file cells space l q → ⊥
          gone l q (short_text m y us s c) = omega (arith, c.1, b, ap (λ us. length (list_text us)) (same_words m us s).1)
