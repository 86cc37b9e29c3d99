-- Laws of stored cases on plain values: what the parts of a run make together.
-- Assumes nothing.
use mathlib.Core.Path.{◌≡◌, refl, ◌∙◌, ap}
use mathlib.Core.Bool.{true}
use mathlib.Core.List.{List, ◌++◌, map}
use Prim.Native.Nat.{ℕ, ◌+◌, ◌-◌, ◌≤◌}
use native.Mathlib.Omega.{arith}
use lib.ListN.{length, take, drop, replicate, length-map, length-drop, length-replicate}
use lib.Seq.{length-take-le, take_all, take_at, drop_at}
use borrow.Author.Tests.{le-leb}
use Rattle.cells.specs.Filled.{filled}
use Rattle.case_codes.specs.Codes.{cell_of, cells_of}
use Rattle.table_cases.specs.declared.Case.{Case}
use Rattle.table_cases.specs.Cases.{asked_cells, fits, CaseRun}

asked_same : (c : Case) {t t' q q' w w' : List ℕ} → t ≡ t' → q ≡ q' → w ≡ w' → asked_cells c t q w ≡ asked_cells c t' q' w'
asked_same c e₁ e₂ e₃ = rw (e₁, e₂, e₃) refl

joined : {l l' m m' : List ℕ} → l ≡ l' → m ≡ m' → l ++ m ≡ l' ++ m'
joined e₁ e₂ = rw (e₁, e₂) refl

back : (m n : ℕ) → (m + n) - m ≡ n
back m n = omega arith

module _ (c : Case) (body first second work : List ℕ) (f : c.count ≤ length first) (s : c.second_count ≤ length second) (w : c.size ≤ length work) (b : c.count + c.second_count ≤ length body) where
  fitting : fits c body first second work ≡ true
  fitting = rw (le-leb _ _ f, le-leb _ _ s, le-leb _ _ w, le-leb _ _ b) refl

  -- the first table lent is what its codes stand for
  table : take c.count (cells_of (take c.count body) first) ≡ map cell_of (take c.count body)
  unfolding cells_of
  table = take_at (map cell_of (take c.count body)) _ c.count (length-map (take c.count body) cell_of ∙ length-take-le c.count body (omega (arith, b)))

  -- the codes of the second table, as its part of the body is lent
  codes : take ((c.count + c.second_count) - c.count) (drop c.count body) ≡ take c.second_count (drop c.count body)
  codes = ap (λ k. take k (drop c.count body)) (back c.count c.second_count)

  -- the query, as the rest of the body is lent
  query : take (length body - (c.count + c.second_count)) (drop (c.count + c.second_count) body) ≡ drop (c.count + c.second_count) body
  query = take_all (length body - (c.count + c.second_count)) (drop (c.count + c.second_count) body) (rw (length-drop (c.count + c.second_count) body) (omega arith))

  -- the work cells lent, and those that are not
  own : take c.size (filled c.size 777 work) ≡ replicate c.size 777
  unfolding filled
  own = take_at (replicate c.size 777) _ c.size (length-replicate c.size 777)

  others : drop c.size (filled c.size 777 work) ≡ drop c.size work
  unfolding filled
  others = drop_at (replicate c.size 777) _ c.size (length-replicate c.size 777)

  pub ran : {first' second' full part : List ℕ} → first' ≡ cells_of (take c.count body) first → second' ≡ cells_of (take ((c.count + c.second_count) - c.count) (drop c.count body)) second → full ≡ filled c.size 777 work → part ≡ asked_cells c (take c.count first') (take (length body - (c.count + c.second_count)) (drop (c.count + c.second_count) body)) (take c.size full) → CaseRun c body first second work first' second' (part ++ drop c.size full)
  ran e₁ e₂ e₃ e₄ =
      record {
        first_cells = rw fitting e₁;
        second_cells = rw fitting (e₂ ∙ ap (λ l. cells_of l second) codes);
        work_cells =
            rw fitting
            (joined
            (e₄ ∙ asked_same c (ap (take c.count) e₁ ∙ table) query (ap (take c.size) e₃ ∙ own))
            (ap (drop c.size) e₃ ∙ others));
      }
