-- Laws of the cells that printing leaves, on plain values: queries one by one, and what the parts of a run make together.
--   query_done     : an outcome of `express` leaves the cells after the query
--   Queried        : what is still to come, from the cells as they are, leaves what all queries leave
--   queried_first, queried_turn, queried_ended : before the walk, after a query, and at its end
--   input_accepted : an accepted input, its list and queries done
-- Assumes nothing.
use mathlib.Core.Path.{◌≡◌, refl, ◌∙◌, ap, subst}
use mathlib.Core.List.{List}
use Prim.Native.Nat.{ℕ, zero, suc, ◌+◌, ◌-◌, ◌<◌, ◌≤◌}
use native.Mathlib.Omega.{arith}
use lib.IntN.{ℤ}
use lib.ListN.{length, take, drop}
use Rattle.std.proofs.Common.{Option, Result, Ok, Some, None}
use Rattle.refusals.specs.declared.Refusal.{Refusal}
use Rattle.expressions.specs.Expressions.{ExpressOutcome}
use Rattle.inputs.specs.Inputs.{later_lines, queries_of}
use Rattle.inputs.specs.declared.Accepted.{Accepted}
use Rattle.inputs.specs.declared.Query.{Query}
use Rattle.inputs.specs.Parsed.{ParsedInto, query_at, walked_on, walked_from}
use Rattle.inputs.proofs.Queries.{query_fits, parse_list, parse_queries}
use Rattle.printer.specs.LentCells.{QueryCells, lent, after_query, after_queries, Buffers, ListDone, InputDone}

-- ── Queries ──

pub query_done : (n N : ℕ) (t query work : List ℕ) (out : List ℤ) {r : Result (Option ℕ) Refusal} {work' : List ℕ} {out' : List ℤ}
    → ExpressOutcome n N t query work out r work' out' → lent work' out' ≡ after_query n N t query (lent work out)
unfolding after_query
query_done n N t query work out o = λ i. record { work = o.cells i; numbers = o.numbers i }

-- at most `lines` lines are still to come
pub record Queried (n N : ℕ) (t input : List ℕ) (from : ℕ) (first now : QueryCells) (at : ℕ) : Type 0 where
  pub lines : ℕ
  pub enough : length input ≤ at + lines
  pub left : after_queries n N t (walked_from lines input at) now ≡ after_queries n N t (walked_from (length input) input from) first

pub queried_first : (n N : ℕ) (t input : List ℕ) (from : ℕ) (first : QueryCells) → Queried n N t input from first first from
queried_first n N t input from first = record { lines = length input; enough = omega arith; left = refl }

module _ {n N : ℕ} {t input : List ℕ} {from : ℕ} {first now : QueryCells} {at : ℕ} (k : Queried n N t input from first now at) where
  pub queried_turn : {q : Query} {after : QueryCells} → Some q ≡ query_at input at
      → after ≡ after_query n N t (take (q.start + q.size - q.start) (drop q.start input)) now → Queried n N t input from first after q.next
  unfolding walked_from after_queries
  queried_turn {q} {after} e a = go k.lines k.enough k.left
    where
      text : take (q.start + q.size - q.start) (drop q.start input) ≡ take q.size (drop q.start input)
      text = let same : q.start + q.size - q.start ≡ q.size = omega arith in ap (λ j. take j (drop q.start input)) same

      fits : (q.start + q.size ≤ length input) × (at < q.next) × (q.next ≤ length input)
      fits = query_fits input at q e

      go : (d : ℕ) → length input ≤ at + d
          → after_queries n N t (walked_from d input at) now ≡ after_queries n N t (walked_from (length input) input from) first
          → Queried n N t input from first after q.next
      go zero h l = absurd (omega (arith, fits.1, fits.2))
      go (suc d) h l =
          record {
            lines = d;
            enough = omega (arith, fits.1);
            left = ap (after_queries n N t (walked_from d input q.next)) (a ∙ ap (λ x. after_query n N t x now) text) ∙ ap (λ x. after_queries n N t (walked_on input (walked_from d input) x) now) e ∙ l;
          }

  pub queried_ended : None ≡ query_at input at → now ≡ after_queries n N t (walked_from (length input) input from) first
  unfolding walked_from after_queries
  queried_ended e = go k.lines k.left
    where
      go : (d : ℕ) → after_queries n N t (walked_from d input at) now ≡ after_queries n N t (walked_from (length input) input from) first
          → now ≡ after_queries n N t (walked_from (length input) input from) first
      go zero l = l
      go (suc d) l = ap (λ x. after_queries n N t (walked_on input (walked_from d input) x) now) e ∙ l

-- ── Inputs ──

pub input_accepted : (input : List ℕ) (b : Buffers) {a : Accepted} {input' : List ℕ} {b' : Buffers} → ParsedInto input (Ok a) input'
    → ListDone a.n (take a.list input') (walked_from (length input') input' a.queries) b b' → InputDone input b input' b'
input_accepted input b {a} {input'} {b'} p d =
    record {
      parsed = Ok a;
      parse = p;
      after =
          subst (λ x. ListDone a.n x (queries_of (later_lines input)) b b') (parse_list input a input' p)
          (subst (λ x. ListDone a.n (take a.list input') x b b') (parse_queries input a input' p) d);
    }
