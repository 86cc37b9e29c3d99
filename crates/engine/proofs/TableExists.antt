-- Every list that is not refused has its canonical table: what is proved of every `TableOf` a list holds of lists outright.
--   rows_at                : the cells of a table, row by row, as a list
--   good_words, all_words  : the letters of a list that is not refused are those of its alphabet
--   list_points, list_short : it has at most one point more than letters, and few of these
--   every_list_has_a_table : the table that folding gives is `TableOf` the list's words
-- Assumes nothing.
use mathlib.Core.Path.{◌≡◌, refl, sym, ◌∙◌, ap, subst, fun_ext}
use mathlib.Core.Logic.{by_cases, ⊎_elim}
use mathlib.Core.Bool.{true, cond, not, ◌&&◌}
use mathlib.Core.Option.{none}
use mathlib.Core.List.Memᴰ
use mathlib.Core.List.{List, [], ◌∷◌, ◌++◌, Memᴰ}
use Prim.Native.Nat.{ℕ, zero, suc, ◌+◌, ◌*◌, ◌≤◌, ◌<◌}
use native.Mathlib.Nat.{zero-mul, suc-mul, mul-le-mul_right}
use native.Mathlib.Decide.{ℕ_discrete, dec_lt}
use native.Mathlib.Omega.{arith}
use lib.Dec.{eqb, ltb}
use lib.ListN.{length, get_or, length-append, get_or-append}
use lib.Seq.{get_or-append-add}
use borrow.Author.Tests.{eq-eqb, ne_eqb, ltb-true}
use Rattle.theory.specs.Letters.{letter_of, is_letter, line_end, usual, StandsIn, AllIn, on_first, words_of, letters_in}
use Rattle.theory.specs.Refusals.{text_limit, is_alphabet, byte_refusal, bytes_refusal, is_unended, or_else, refused_if, text_refusal}
use Rattle.theory.specs.Tables.{absent, Cells, cell}
use Rattle.theory.specs.Canonical.{Canonical, row_of, rows_before}
use Rattle.theory.specs.Graphs.{start_points, reduced_length}
use Rattle.theory.specs.Subgroups.{AcceptsExactly, TableOf}
use Rattle.theory.proofs.WordLaws.{by_test}
use Rattle.theory.proofs.RefusalLaws.{Scanned, scanned, refusal_none}
use Rattle.theory.proofs.TableRefusalLaws.{else_none}
use Rattle.theory.proofs.TextLaws.{letters_le}
use Rattle.theory.proofs.StartLaws.{reduced_length_written, written_letters}
use Rattle.theory.proofs.RowLaws.{length_row, get_or_row}
use Rattle.theory.proofs.TableLaws.{Bounded, length_usual, get_or_usual, cell_in, cell_bounded}
use Rattle.engine.specs.Engine.{start, folded}
use Rattle.engine.specs.Numbering.{Naming, numbered}
use Rattle.engine.proofs.FoldedTable.{Table, folded_usual}

-- ── A table as a list ──

module _ (c : Cells) (ys : List ℕ) where
  length_rows : (N : ℕ) → length (rows_before c ys N) ≡ N * length ys
  unfolding rows_before
  length_rows zero = sym (zero-mul (length ys))
  length_rows (suc N) =
      length-append (rows_before c ys N) (row_of c ys N)
      ∙ omega (arith, length_rows N, length_row c ys N, suc-mul N (length ys))

  rows_at : (N v i : ℕ) → v < N → i < length ys → get_or (rows_before c ys N) (v * length ys + i) absent ≡ c v (get_or ys i 0)
  unfolding rows_before
  rows_at zero v i h k = absurd (omega arith)
  rows_at (suc N) v i h k = by_cases (ℕ_discrete v N) last (λ d. before d (λ l. rows_at N v i l k))
    where
      last : v ≡ N → get_or (rows_before c ys N ++ row_of c ys N) (v * length ys + i) absent ≡ c v (get_or ys i 0)
      last e =
          ap (λ j. get_or (rows_before c ys N ++ row_of c ys N) j absent) place
          ∙ get_or-append-add (rows_before c ys N) (row_of c ys N) i absent
          ∙ default_row i k
          ∙ ap (λ u. c u (get_or ys i 0)) (sym e)
        where
          place : v * length ys + i ≡ length (rows_before c ys N) + i
          place = ap (λ u. u * length ys + i) e ∙ ap (λ l. l + i) (sym (length_rows N))

          default_row : (i : ℕ) → i < length ys → get_or (row_of c ys N) i absent ≡ c N (get_or ys i 0)
          default_row i k = same (row_of c ys N) i (omega (arith, length_row c ys N)) ∙ get_or_row c ys N i k
            where
              same : (l : List ℕ) (i : ℕ) → i < length l → get_or l i absent ≡ get_or l i 0
              same [] i h = absurd (omega arith)
              same (x ∷ l) zero h = refl
              same (x ∷ l) (suc i) h = same l i (omega arith)

      before : (v ≡ N → ⊥) → (v < N → get_or (rows_before c ys N) (v * length ys + i) absent ≡ c v (get_or ys i 0)) → get_or (rows_before c ys N ++ row_of c ys N) (v * length ys + i) absent ≡ c v (get_or ys i 0)
      before d f =
          get_or-append (rows_before c ys N) (row_of c ys N) absent (v * length ys + i) (omega (arith, length_rows N, suc-mul v (length ys), mul-le-mul_right {m = suc v} {n = N} (length ys) (omega arith)))
          ∙ f (omega arith)

-- the list of a table's rows has the table's cells
cell_rows : (n N : ℕ) (c : Cells) → Bounded c N (usual n) → cell n N (rows_before c (usual n) N) ≡ c
cell_rows n N c b = fun_ext (λ v. fun_ext (λ y. by_cases (dec_lt v N) (λ h. by_cases (dec_lt y (2 * n)) (inside v y h) (λ k. outside v y (λ x. k x.1))) (λ h. outside v y (λ x. h x.0))))
  where
    t : List ℕ
    t = rows_before c (usual n) N

    inside : (v y : ℕ) → v < N → y < 2 * n → cell n N t v y ≡ c v y
    inside v y h k =
        cell_in n N t v y h k
        ∙ ap (λ w. get_or t (v * w + y) absent) (sym (length_usual n))
        ∙ rows_at c (usual n) N v y h (omega (arith, length_usual n))
        ∙ ap (c v) (get_or_usual n y k)

    absent_of : (x : ℕ) → ((x ≡ absent → ⊥) → ⊥) → x ≡ absent
    absent_of x f = by_cases (ℕ_discrete x absent) (λ e. e) (λ e. absurd (f e))

    outside : (v y : ℕ) → ((v < N) × (y < 2 * n) → ⊥) → cell n N t v y ≡ c v y
    outside v y f =
        absent_of (cell n N t v y) (λ p. f (here (cell_bounded n N t v y p)))
        ∙ sym (absent_of (c v y) (λ p. f (here (b v y p))))
      where
        here : (v < N) × StandsIn (usual n) y → (v < N) × (y < 2 * n)
        here s = (s.0, omega (arith, length_usual n, s.1.1, s.1.2, get_or_usual n s.1.0 (omega (arith, length_usual n, s.1.1))))

-- ── The words of a list that is not refused ──

-- each word of ws is over the letters ys
abbrev pub AllWords : List ℕ → List (List ℕ) → Type 0
AllWords ys [] = Unit {0}
AllWords ys (w ∷ ws) = AllIn ys w × AllWords ys ws

on_first_lem : (ys : List ℕ) (y : ℕ) (ws : List (List ℕ)) → StandsIn ys y → AllWords ys ws → AllWords ys (on_first y ws)
unfolding on_first
on_first_lem ys y [] s a = ((s, tt), tt)
on_first_lem ys y (w ∷ ws) s a = ((s, a.0), a.1)

-- a byte that draws nothing is a line end or a letter of the alphabet
drawn_letter : (n b : ℕ) → (b ≡ line_end → ⊥) → byte_refusal n true b ≡ 0 → letter_of b < 2 * n
unfolding byte_refusal
drawn_letter n b d e = by_test (is_letter b) (λ l. low (rw l at step)) (λ l. absurd (three (rw (l, ne_eqb b line_end d) at step)))
  where
    step : ◌≡◌ {A = ℕ} (cond (is_letter b) (cond (ltb (letter_of b) (2 * n)) 0 4) (cond (true && eqb b line_end) 0 3)) 0
    step = e

    three : ◌≡◌ {A = ℕ} 3 0 → ⊥
    three q = omega arith

    low : ◌≡◌ {A = ℕ} (cond (ltb (letter_of b) (2 * n)) 0 4) 0 → letter_of b < 2 * n
    low q = by_test (ltb (letter_of b) (2 * n)) (λ t. ltb-true (letter_of b) (2 * n) t) (λ t. absurd (four (rw t at q)))
      where
        four : ◌≡◌ {A = ℕ} 4 0 → ⊥
        four z = omega arith

words_over : (n : ℕ) (text : List ℕ) → ((q : ℕ) → q < length text → byte_refusal n true (get_or text q 0) ≡ 0) → AllWords (usual n) (words_of text)
unfolding words_of
words_over n [] f = tt
words_over n (b ∷ bs) f =
    by_cases (ℕ_discrete b line_end) (λ e. rw (eq-eqb b line_end e) (tt, words_over n bs rest))
    (λ e. rw (ne_eqb b line_end e) (on_first_lem (usual n) (letter_of b) (words_of bs) (stands (drawn_letter n b e (f 0 (omega arith)))) (words_over n bs rest)))
  where
    rest : (q : ℕ) → q < length bs → byte_refusal n true (get_or bs q 0) ≡ 0
    rest q h = f (suc q) (omega arith)

    stands : letter_of b < 2 * n → StandsIn (usual n) (letter_of b)
    stands h = (letter_of b, omega (arith, length_usual n), get_or_usual n (letter_of b) h)

pub all_words : (ys : List ℕ) (ws : List (List ℕ)) → AllWords ys ws → (w : List ℕ) → Memᴰ w ws → AllIn ys w
all_words ys [] a w m = absurd (Memᴰ.not-nil m)
all_words ys (v ∷ ws) a w m = ⊎_elim (λ e. subst (AllIn ys) (sym e) a.0) (λ l. all_words ys ws a.1 w l) (Memᴰ.cases_cons m)

-- the words of a list that is not refused are over its alphabet
pub good_words : (n : ℕ) (text : List ℕ) → text_refusal n true text ≡ none → AllWords (usual n) (words_of text)
unfolding text_refusal
good_words n text e = words_over n text (subst (Scanned n true 0 text) clean (scanned n true 0 text))
  where
    clean : bytes_refusal n true 0 text ≡ none
    clean =
        let a = else_none (refused_if (not (is_alphabet n)) 1 0) (or_else (refused_if (ltb text_limit (length text)) 2 0) (or_else (bytes_refusal n true 0 text) (refused_if (true && is_unended text) 5 (length text)))) e in
        let b = else_none (refused_if (ltb text_limit (length text)) 2 0) (or_else (bytes_refusal n true 0 text) (refused_if (true && is_unended text) 5 (length text))) a.1 in
        (else_none (bytes_refusal n true 0 text) (refused_if (true && is_unended text) 5 (length text)) b.1).0

-- there are at most as many points as letters, and the base
points_few : (ws : List (List ℕ)) → start_points ws ≤ reduced_length ws + 1
unfolding start_points reduced_length
points_few [] = omega arith
points_few (w ∷ ws) = omega (arith, points_few ws)

pub list_points : (text : List ℕ) → start_points (words_of text) ≤ letters_in text + 1
list_points text = omega (arith, points_few (words_of text), reduced_length_written (words_of text), written_letters text)

-- a list that is not refused is short, and so has few letters
pub list_short : (n : ℕ) (text : List ℕ) → text_refusal n true text ≡ none → letters_in text ≤ text_limit
list_short n text e =
    by_cases (dec_lt text_limit (length text)) (λ h. absurd (refusal_none n true text e 2 0 (refl, h)))
    (λ h. omega (arith, letters_le text))

-- ── The table ──

pub every_list_has_a_table : (n : ℕ) (text : List ℕ) → text_refusal n true text ≡ none → (N : ℕ) × (t : List ℕ) × TableOf n N t (words_of text)
every_list_has_a_table n text e = (
  s.met,
  rows_before s.cells (usual n) s.met,
  record {
    based = T.some;
    canonical = subst (Canonical s.met (usual n)) (sym same) T.canonical;
    accepts = subst (λ c. AcceptsExactly c (words_of text)) (sym same) T.exact;
  },
)
  where
    s : Naming
    s = numbered (usual n) (start_points (words_of text)) (folded (usual n) start (words_of text)).cells

    small : start_points (words_of text) ≤ absent
    small = omega (arith, list_points text, list_short n text e)

    T : Table (usual n) (start_points (words_of text)) (words_of text) s
    T = folded_usual n (words_of text) (all_words (usual n) (words_of text) (good_words n text e)) (start_points (words_of text)) (omega arith) small

    same : cell n s.met (rows_before s.cells (usual n) s.met) ≡ s.cells
    same = cell_rows n s.met s.cells T.bounded
