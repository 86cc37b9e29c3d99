-- What the printing program asks of a basis that it prints: each word stands inside the text.
--   word_inside : the word after another starts behind it, inside the text
-- Assumes nothing.
use mathlib.Core.Path.{◌≡◌}
use mathlib.Core.List.{List}
use Prim.Native.Nat.{ℕ, ◌-◌, ◌<◌, ◌≤◌}
use native.Mathlib.Omega.{arith}
use lib.ListN.{length}
use Rattle.lists.specs.Counts.{next_start}

pub word_inside : (text : List ℕ) (at : ℕ) {next : ℕ} → at < length text → next ≡ next_start text at → (at ≤ next) × (next ≤ length text) × (length text - next < length text - at)
unfolding next_start
word_inside text at {next} h e = (omega arith, omega arith, omega arith)
