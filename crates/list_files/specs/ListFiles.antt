-- A list in a file of kind 2, behind the kind and n (document 01, 'The saved file'; refusals 10, 10 or 4, 12, 2, 9), cited by `read_list`.
--   words_at n file p k == k words from byte p on, each its length and its letters, and the place behind them; else the first refusal
--   ListIn             == what stands there: a refusal, or the words
--   list_in n space file p == that, from byte p on, for a lent text of so many bytes
--   ListOutcome       <-> the answer; the words' text stands in the first bytes, and all others are as they were
-- Assumes nothing.
use Rattle.std.specs.Prelude.{◌≡◌, cond, List, [], ◌∷◌, ◌++◌, ℕ, zero, suc, ◌*◌, ltb, length, drop}
use Rattle.std.proofs.Math.Option.{Option, none, some}
use Rattle.std.specs.declared.result.Result.{Result}
use Rattle.std.specs.declared.result.Result.TheVariants.{Ok, Err}
use Rattle.theory.specs.Refusals.{Refusal as FirstCause, text_limit}
use Rattle.theory.specs.Texts.{list_text}
use Rattle.refusals.specs.declared.Refusal.{Refusal}
use Rattle.refusals.specs.Given.{given}
use Rattle.lists.specs.declared.TextSize.{TextSize}
use Rattle.runs.specs.Runs.{Run, broken, whole, number_at, behind, numbers_at}

-- words: the refusal that they draw, or the words and the place behind them
pub data Words : Type 0 where
  stopped : FirstCause → Words
  read : List (List ℕ) → ℕ → Words

-- a word in front of others
abbrev pub on_words : List ℕ → Words → Words
on_words w (stopped r) = stopped r
on_words w (read ws q) = read (w ∷ ws) q

-- the letters of a word, and what follows them
abbrev pub letters_on : Run → (ℕ → Words) → Words
letters_on (broken r) rest = stopped r
letters_on (whole w q) rest = on_words w (rest q)

-- the length of a word at p, and what follows it
abbrev pub word_on : ℕ → List ℕ → ℕ → Option ℕ → (ℕ → Words) → Words
word_on n file p none rest = stopped (record { number = 10; place = p })
word_on n file p (some l) rest = letters_on (numbers_at (2 * n) file (behind p l) l) rest

unfoldable pub words_at : ℕ → List ℕ → ℕ → ℕ → Words
words_at n file p zero = read [] p
words_at n file p (suc k) = word_on n file p (number_at file p) (λ q. words_at n file q k)

pub data ListIn : Type 0 where
  refused : FirstCause → ListIn
  listed : List (List ℕ) → ListIn

-- the words and the place behind them: 12, then 2, then 9
abbrev pub words_in : ℕ → List ℕ → Words → ListIn
words_in space file (stopped r) = refused r
words_in space file (read ws q) =
    cond (ltb q (length file)) (refused (record { number = 12; place = q }))
    (cond (ltb text_limit (length (list_text ws))) (refused (record { number = 2; place = 0 }))
    (cond (ltb space (length (list_text ws))) (refused (record { number = 9; place = length (list_text ws) })) (listed ws)))

-- the number of words at p, and what follows it
abbrev pub count_in : ℕ → ℕ → List ℕ → ℕ → Option ℕ → ListIn
count_in n space file p none = refused (record { number = 10; place = p })
count_in n space file p (some k) = words_in space file (words_at n file (behind p k) k)

unfoldable pub list_in : ℕ → ℕ → List ℕ → ℕ → ListIn
list_in n space file p = count_in n space file p (number_at file p)

-- what a list of words is as a text
abbrev pub size_of : List (List ℕ) → TextSize
size_of ws = record { words = length ws; bytes = length (list_text ws) }

abbrev pub read_for : ListIn → Result TextSize Refusal
read_for (refused r) = Err (given r)
read_for (listed ws) = Ok (size_of ws)

abbrev pub text_for : List ℕ → ListIn → List ℕ
text_for text (refused r) = text
text_for text (listed ws) = list_text ws ++ drop (length (list_text ws)) text

pub record ListOutcome (n : ℕ) (file : List ℕ) (p : ℕ) (text : List ℕ) (r : Result TextSize Refusal) (after : List ℕ) : Type 0 where
  pub answer : r ≡ read_for (list_in n (length text) file p)
  pub cells : after ≡ text_for text (list_in n (length text) file p)
