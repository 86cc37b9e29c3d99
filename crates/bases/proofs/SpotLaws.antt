-- Laws of the basis words of spots (`specs/Words`), for any cells.
--   basis_in-append, text_of-append, size_in-append : of spots one behind the other
--   one_outside, one_used : of one spot
--   basis_scan : the words of all spots are the basis
-- Assumes nothing.
use mathlib.Core.Path.{◌≡◌, refl, sym, ◌∙◌, ap}
use mathlib.Core.Bool.{Bool, true, false, not, ◌&&◌}
use mathlib.Core.List.{List, [], ◌∷◌, ◌++◌, map, append_assoc}
use Prim.Native.Nat.{ℕ, ◌+◌}
use lib.ListN.{length, length-append}
use Rattle.theory.specs.Letters.{byte_of, line_end}
use Rattle.theory.specs.Tables.{Cells}
use Rattle.theory.specs.Basis.{Spot, scan, is_path_edge, those, is_edge, edges_of, outside_edges, basis_word, basis_of}
use Rattle.theory.specs.Texts.{list_text}
use Rattle.theory.proofs.WordLaws.{by_test}
use Rattle.tables.proofs.ScanLaws.{those_append}
use Rattle.bases.specs.Words.{is_outside, basis_in, text_of, size_in, grown}

-- those that pass one test, then another, pass both
those_both : (f g : Spot → Bool) (l : List Spot) → those (λ s. f s && g s) l ≡ those g (those f l)
unfolding those
those_both f g [] = refl
those_both f g (s ∷ l) =
    let r = those_both f g l in
    by_test (f s) (λ e. by_test (g s) (λ d. rw (e, d) (ap (λ m. s ∷ m) r)) (λ d. rw (e, d) r)) (λ e. rw e r)

words_append : {A : Type 0} (f : A → List ℕ) (a b : List A) → map f (a ++ b) ≡ map f a ++ map f b
words_append f [] b = refl
words_append f (x ∷ a) b = ap (λ l. f x ∷ l) (words_append f a b)

text_append : (a b : List (List ℕ)) → list_text (a ++ b) ≡ list_text a ++ list_text b
unfolding list_text
text_append [] b = refl
text_append (w ∷ a) b =
    ap (λ l. map byte_of w ++ line_end ∷ l) (text_append a b)
    ∙ sym (append_assoc (map byte_of w) (line_end ∷ list_text a) (list_text b))

module _ (c : Cells) (N : ℕ) (ys : List ℕ) where
  pub basis_in-append : (a b : List Spot) → basis_in c N ys (a ++ b) ≡ basis_in c N ys a ++ basis_in c N ys b
  unfolding basis_in
  basis_in-append a b =
      ap (map (basis_word c N ys)) (those_append (is_outside c N ys) a b)
      ∙ words_append (basis_word c N ys) (those (is_outside c N ys) a) (those (is_outside c N ys) b)

  pub text_of-append : (a b : List Spot) → text_of c N ys (a ++ b) ≡ text_of c N ys a ++ text_of c N ys b
  unfolding text_of
  text_of-append a b = ap list_text (basis_in-append a b) ∙ text_append (basis_in c N ys a) (basis_in c N ys b)

  pub size_in-append : (a b : List Spot) → size_in c N ys (a ++ b) ≡ grown (size_in c N ys a) (size_in c N ys b)
  unfolding size_in
  size_in-append a b = λ i. record { words = words i; bytes = bytes i }
    where
      words : length (basis_in c N ys (a ++ b)) ≡ length (basis_in c N ys a) + length (basis_in c N ys b)
      words = ap length (basis_in-append a b) ∙ length-append (basis_in c N ys a) (basis_in c N ys b)

      bytes : length (text_of c N ys (a ++ b)) ≡ length (text_of c N ys a) + length (text_of c N ys b)
      bytes = ap length (text_of-append a b) ∙ length-append (text_of c N ys a) (text_of c N ys b)

  -- an edge that no path uses gives its word
  pub one_outside : (s : Spot) → is_outside c N ys s ≡ true → basis_in c N ys (s ∷ []) ≡ basis_word c N ys s ∷ []
  unfolding basis_in those
  one_outside s e = rw e

  -- another spot gives none
  pub one_used : (s : Spot) → is_outside c N ys s ≡ false → basis_in c N ys (s ∷ []) ≡ []
  unfolding basis_in those
  one_used s e = rw e

  pub text_none : basis_in c N ys [] ≡ []
  unfolding basis_in those
  text_none = refl

  pub basis_scan : basis_in c N ys (scan N ys) ≡ basis_of c N ys
  unfolding basis_in is_outside basis_of outside_edges edges_of
  basis_scan =
      ap (map (basis_word c N ys)) (those_both (is_edge c) (λ s. not (is_path_edge c N ys s.point s.letter)) (scan N ys))
