-- The head of a file, written: the kind, n and a count, one behind the other.
--   first_room, second_room, third_room : each has its place; head_written : and then the head stands there
--   small_kind : a kind's number takes one byte; written_kind : what is written for it is its number
-- Assumes nothing.
use mathlib.Core.Path.{◌≡◌, refl, subst}
use mathlib.Core.List.{List, [], ◌∷◌}
use Prim.Native.Nat.{ℕ, ◌+◌, ◌≤◌}
use lib.ListN.{length}
use Rattle.theory.specs.Files.{number_bytes, numbers_bytes}
use native.Mathlib.Omega.{arith}
use Rattle.numbers.specs.declared.Kind.{Kind}
use Rattle.numbers.specs.declared.Kind.TheVariants.{Table, List as ListKind}
use Rattle.numbers.specs.Kinds.{kind_number}
use Rattle.numbers.specs.Splices.{WrittenAt}
use Rattle.saves.proofs.RunLaws.{Run, run_start, run_room, run_turn, run_done}

pub small_kind : (kind : Kind) → kind_number kind ≤ 127
small_kind Table = omega arith
small_kind ListKind = omega arith

pub written_kind : {k m p : ℕ} {out one : List ℕ} → k ≡ m → WrittenAt 0 (number_bytes k) out p one → WrittenAt 0 (number_bytes m) out p one
written_kind {k} {m} {p} {out} {one} e w = subst (λ j. WrittenAt 0 (number_bytes j) out p one) e w

module _ (kind n count : ℕ) (out : List ℕ) (room : length (numbers_bytes (kind ∷ n ∷ count ∷ [])) ≤ length out) where
  abbrev whole : List ℕ
  whole = kind ∷ n ∷ count ∷ []

  start : Run whole whole 0 out out 0
  start = run_start whole out room

  pub first_room : 0 + length (number_bytes kind) ≤ length out
  first_room = run_room start {x = kind} {behind = n ∷ count ∷ []} refl

  module _ {p : ℕ} {one : List ℕ} (a : WrittenAt 0 (number_bytes kind) out p one) where
    after_kind_lem : Run whole (n ∷ count ∷ []) 0 out one p
    after_kind_lem = run_turn start {x = kind} {behind = n ∷ count ∷ []} refl a

    pub second_room : p + length (number_bytes n) ≤ length one
    second_room = run_room after_kind_lem {x = n} {behind = count ∷ []} refl

    module _ {q : ℕ} {two : List ℕ} (b : WrittenAt p (number_bytes n) one q two) where
      after_n_lem : Run whole (count ∷ []) 0 out two q
      after_n_lem = run_turn after_kind_lem {x = n} {behind = count ∷ []} refl b

      pub third_room : q + length (number_bytes count) ≤ length two
      third_room = run_room after_n_lem {x = count} {behind = []} refl

      pub head_written : {r : ℕ} {three : List ℕ} → WrittenAt q (number_bytes count) two r three
          → WrittenAt 0 (numbers_bytes (kind ∷ n ∷ count ∷ [])) out r three
      head_written c = run_done (run_turn after_n_lem {x = count} {behind = []} refl c) refl
