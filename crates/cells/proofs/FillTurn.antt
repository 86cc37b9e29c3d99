-- The laws of `filled` that callers cite.
--   length_filled : filling keeps the length
--   filled_drop   : cells behind the filled ones are as they were
-- Assumes nothing.
use mathlib.Core.Path.{◌≡◌, refl, ◌∙◌, ap}
use mathlib.Core.List.{List}
use Prim.Native.Nat.{ℕ, ◌+◌, ◌≤◌, ◌<◌}
use native.Mathlib.Omega.{arith}
use lib.ListN.{length, drop, set, replicate, length-append, length-replicate, length-drop}
use lib.Seq.{drop_at}
use borrow.Author.Fill.{fill_more}
use Rattle.cells.specs.Filled.{filled}

pub length_filled : (k v : ℕ) (cells : List ℕ) → k ≤ length cells → length (filled k v cells) ≡ length cells
unfolding filled
length_filled k v cells h =
    length-append (replicate k v) (drop k cells) ∙ (rw (length-replicate, length-drop) (omega arith))

pub filled_drop : (k v : ℕ) (cells : List ℕ) → drop k (filled k v cells) ≡ drop k cells
unfolding filled
filled_drop k v cells = drop_at (replicate k v) (drop k cells) k (length-replicate k v)
