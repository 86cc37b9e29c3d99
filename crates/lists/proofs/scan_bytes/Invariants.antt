-- `lists::scan_bytes` meets its contract. The loop: i bytes draw nothing (`ScanTurn`).
-- Assumes nothing.
use mathlib.Core.Path.{◌≡◌}
use lib.ListN.{drop}
use Rattle.theory.specs.Refusals.{bytes_refusal}
use Rattle.lists.proofs.scan_bytes.Given as goal

abbrev pub invariant-loop-i : goal.invariant-loop-i
invariant-loop-i l = bytes_refusal l.n l.lines 0 l.text ≡ bytes_refusal l.n l.lines l.i (drop l.i l.text)
