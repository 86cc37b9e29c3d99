-- Bytes written at a place, cited by `write_number`.
--   spliced at bytes out           == out with the bytes from place `at` on replaced by these, the others as they were
--   WrittenAt at bytes out r after <-> the cells are those, and r is the place behind the bytes
-- Assumes nothing.
use Rattle.std.specs.Prelude.{◌≡◌, List, ◌++◌, ℕ, ◌+◌, length, take, drop}

unfoldable pub spliced : ℕ → List ℕ → List ℕ → List ℕ
spliced at bytes out = take at out ++ (bytes ++ drop (at + length bytes) out)

pub record WrittenAt (at : ℕ) (bytes out : List ℕ) (r : ℕ) (after : List ℕ) : Type 0 where
  pub next : r ≡ at + length bytes
  pub cells : after ≡ spliced at bytes out
