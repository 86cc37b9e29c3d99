-- The causes that refuse a file, in the files' own order (document 01: kind, n, V or the word count, the remaining numbers, 12, then 8, or 2 and 9).
--   Starts file xs      <-> the numbers xs stand at the start of the file, one behind the other
--   Missing file xs p   <-> so it is, and at p, behind them, no number stands: 10
--   Unfinished k xs     <-> xs are some of the numbers of k words, from the first on, and not all
--   FileCause file cells space s k p <-> cause k applies at place p, at step s of the order
--   FirstInFile         <-> it applies, and none before it: neither at an earlier step, nor at an earlier place of the same one
-- Assumes nothing.
use Rattle.std.specs.Prelude.{◌≡◌, ◌⊎◌, List, [], ◌∷◌, ◌++◌, map, ℕ, ◌*◌, ◌≤◌, ◌<◌, length}
use Rattle.theory.specs.Files.{number_limit, numbers_bytes, word_numbers, Cause10, Cause11, Cause12}
use Rattle.theory.specs.Refusals.{Cause1, Cause2, Cause6Lent, CauseShort}
use Rattle.theory.specs.TableRefusals.{Cause8}
use Rattle.theory.specs.Texts.{list_text}
use Rattle.table_files.specs.TableFiles.{number_cell}

-- every number of a list is at most 4,294,967,295
abbrev pub AllFit : List ℕ → Type 0
AllFit [] = Unit {0}
AllFit (x ∷ xs) = (x ≤ number_limit) × AllFit xs

pub record Starts (file xs : List ℕ) : Type 0 where
  pub fit : AllFit xs
  pub rest : List ℕ
  pub written : file ≡ numbers_bytes xs ++ rest

abbrev pub end_of : List ℕ → ℕ
end_of xs = length (numbers_bytes xs)

abbrev pub Missing : List ℕ → List ℕ → ℕ → Type 0
Missing file xs p = Starts file xs × (p ≡ end_of xs) × Cause10 file p

-- whole words, then a length and fewer letters than it says
abbrev pub InWord : ℕ → List ℕ → Type 0
InWord k xs =
    (ws : List (List ℕ)) × (l : ℕ) × (w : List ℕ) × (length ws < k) × (length w < l) × (xs ≡ word_numbers ws ++ (l ∷ w))

-- fewer whole words than k, and nothing behind them
abbrev pub BetweenWords : ℕ → List ℕ → Type 0
BetweenWords k xs = (ws : List (List ℕ)) × (length ws < k) × (xs ≡ word_numbers ws)

abbrev pub Unfinished : ℕ → List ℕ → Type 0
Unfinished k xs = BetweenWords k xs ⊎ InWord k xs

pub data FileCause (file : List ℕ) (cells space : ℕ) : ℕ → ℕ → ℕ → Type 0 where
  kind_missing : (p : ℕ) → Missing file [] p → FileCause file cells space 0 10 p
  kind_other : (kind p : ℕ) → Starts file (kind ∷ []) → Cause11 kind p → FileCause file cells space 0 11 p
  n_missing : (kind p : ℕ) → Missing file (kind ∷ []) p → FileCause file cells space 1 10 p
  n_beyond : (kind n p : ℕ) → Starts file (kind ∷ n ∷ []) → Cause1 n p → FileCause file cells space 1 1 p
  count_missing : (kind n p : ℕ) → Missing file (kind ∷ n ∷ []) p → FileCause file cells space 2 10 p
  points_wrong : (n N p : ℕ) → Starts file (1 ∷ n ∷ N ∷ []) → Cause6Lent n N cells p → FileCause file cells space 2 6 p
  cell_missing : (n N p : ℕ) (xs : List ℕ) → length xs < N * (2 * n) → Missing file (1 ∷ n ∷ N ∷ xs) p → FileCause file cells space 3 10 p
  number_missing : (n k p : ℕ) (xs : List ℕ) → Unfinished k xs → Missing file (2 ∷ n ∷ k ∷ xs) p → FileCause file cells space 3 10 p
  letter_beyond : (n k p y : ℕ) (xs : List ℕ) → InWord k xs → Starts file (2 ∷ n ∷ k ∷ (xs ++ (y ∷ []))) → 2 * n ≤ y → p ≡ end_of (2 ∷ n ∷ k ∷ xs)
      → FileCause file cells space 3 4 p
  cells_end : (n N p : ℕ) (xs : List ℕ) → length xs ≡ N * (2 * n) → Starts file (1 ∷ n ∷ N ∷ xs) → Cause12 file (end_of (1 ∷ n ∷ N ∷ xs)) p
      → FileCause file cells space 4 12 p
  words_end : (n p : ℕ) (ws : List (List ℕ)) → Starts file (2 ∷ n ∷ length ws ∷ word_numbers ws)
      → Cause12 file (end_of (2 ∷ n ∷ length ws ∷ word_numbers ws)) p → FileCause file cells space 4 12 p
  cell_faulty : (n N p : ℕ) (xs : List ℕ) → length xs ≡ N * (2 * n) → Starts file (1 ∷ n ∷ N ∷ xs) → Cause8 n N (map number_cell xs) p
      → FileCause file cells space 5 8 p
  text_long : (n p : ℕ) (ws : List (List ℕ)) → Starts file (2 ∷ n ∷ length ws ∷ word_numbers ws) → Cause2 (list_text ws) p
      → FileCause file cells space 5 2 p
  text_narrow : (n p : ℕ) (ws : List (List ℕ)) → Starts file (2 ∷ n ∷ length ws ∷ word_numbers ws) → CauseShort (length (list_text ws)) space p
      → FileCause file cells space 6 9 p

-- step s and place p come before step u and place q
abbrev pub Sooner : ℕ → ℕ → ℕ → ℕ → Type 0
Sooner s p u q = (s < u) ⊎ ((s ≡ u) × (p < q))

pub record FirstInFile (file : List ℕ) (cells space k p : ℕ) : Type 0 where
  pub step : ℕ
  pub applies : FileCause file cells space step k p
  pub foremost : (u l q : ℕ) → Sooner u q step p → FileCause file cells space u l q → ⊥
