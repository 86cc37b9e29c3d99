-- The answers of the scans, cited by this crate's contracts: each is a refusal of theory's `Refusals`, as code holds it.
--   drawn_as k        == the cause of number k, or none for 0
--   drawn n lines b   == the cause of the refusal that a byte draws (theory, `byte_refusal`)
--   beyond_draws g n  == what a letter of generator g draws: 4 beyond n, else nothing
--   last_of           == refusal 5 of a list whose bytes are fine
-- Assumes nothing.
use Rattle.std.specs.Prelude.{Bool, cond, ◌&&◌, List, ℕ, eqb, leb, length}
use Rattle.std.proofs.Math.Option.{Option}
use Rattle.std.specs.declared.option.Option.{Option as Maybe}
use Rattle.std.specs.declared.option.Option.TheVariants.{None, Some}
use Rattle.theory.specs.Refusals.{Refusal as FirstCause, byte_refusal, refused_if, is_unended}
use Rattle.refusals.specs.declared.Cause.{Cause}
use Rattle.refusals.specs.Given.{cause_of}

abbrev pub drawn_as : ℕ → Maybe Cause
drawn_as k = cond (eqb k 0) None (Some (cause_of k))

unfoldable pub drawn : ℕ → Bool → ℕ → Maybe Cause
drawn n lines b = drawn_as (byte_refusal n lines b)

unfoldable pub beyond_draws : ℕ → ℕ → Maybe Cause
beyond_draws g n = drawn_as (cond (leb g n) 0 4)

unfoldable pub last_of : Bool → List ℕ → Option FirstCause
last_of lines text = refused_if (lines && is_unended text) 5 (length text)
