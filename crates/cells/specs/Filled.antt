-- Cells after filling, cited by `fill` and by every contract that clears its work.
--   filled k v cells == the first k cells hold v, the others are as they were
-- Assumes nothing.
use Rattle.std.specs.Prelude.{List, ◌++◌, ℕ, drop, replicate}

unfoldable pub filled : ℕ → ℕ → List ℕ → List ℕ
filled k v cells = replicate k v ++ drop k cells
