-- Checking a table on plain values: what the tests of a lent table refuse, and then the walk.
--   check_refused, check_faulty : a refusal at a stage is the answer
--   check_sound                 : behind both stand the counts
--   check_connected, check_few  : so the rank does not fall below 0, and the count does not wrap
-- Assumes nothing.
use mathlib.Core.Path.{◌≡◌, refl, ◌∙◌, ap}
use mathlib.Core.Bool.{Bool, true, false, cond}
use mathlib.Core.Option.{Option, none, some}
use mathlib.Core.List.{List}
use Prim.Native.Nat.{ℕ, ◌+◌, ◌-◌, ◌≤◌}
use native.Mathlib.Omega.{arith}
use lib.ListN.{length}
use Rattle.std.specs.Prelude.{⊤}
use Rattle.std.specs.declared.option.Option.{Option as Index}
use Rattle.std.specs.declared.result.Result.{Result}
use Rattle.std.specs.declared.result.Result.TheVariants.{Ok, Err}
use Rattle.theory.specs.Letters.{usual}
use Rattle.theory.specs.Refusals.{Refusal as FirstCause, or_else}
use Rattle.theory.specs.TableRefusals.{cell_refusal, check_refusal}
use Rattle.theory.specs.Tables.{cell}
use Rattle.theory.specs.Basis.{finite, infinite, edges_of, rank_of, index_of}
use Rattle.refusals.specs.declared.Refusal.{Refusal}
use Rattle.refusals.specs.Given.{unless}
use Rattle.refusals.proofs.UnlessLaws.{ok_unless}
use Rattle.refusals.proofs.StageLaws.{err_any, err_first, ok_next}
use Rattle.tables.specs.Lent.{IsLent, lent_refusal}
use Rattle.tables.specs.Walks.{walk_of, walked_as}
use Rattle.tables.specs.Checks.{index_as, figures_as, checked_as}
use Rattle.tables.specs.Cells.{index_for}
use Rattle.tables.specs.declared.Figures.{Figures}
use Rattle.tables.specs.declared.Walked.{Walked}
use Rattle.tables.proofs.LentLaws.{product_small}
use Rattle.tables.proofs.WalkLaws.{walk_ok, walk_edges, walk_full, walk_connected, walk_small}

-- the index, from the points and whether no cell is absent
index_as_lem : (N : ℕ) (b : Bool) → index_for N b ≡ index_as (cond b (finite N) infinite)
index_as_lem N true = refl
index_as_lem N false = refl

or_else-assoc : (a b c : Option FirstCause) → or_else (or_else a b) c ≡ or_else a (or_else b c)
or_else-assoc none b c = refl
or_else-assoc (some r) b c = refl

module _ (n N : ℕ) (t : List ℕ) where
  by_stages : checked_as n N t ≡ unless (or_else (lent_refusal n N t) (cell_refusal n N t)) (figures_as n N t)
  unfolding checked_as check_refusal
  by_stages = rw or_else-assoc

  pub check_refused : {r : Refusal} → Err r ≡ unless (lent_refusal n N t) (tt {0}) → Err r ≡ checked_as n N t
  check_refused e = rw by_stages (err_first (lent_refusal n N t) (tt {0}) (figures_as n N t) (cell_refusal n N t) e)

  -- the table is lent: the cells decide
  module _ {u : ⊤} (l : Ok u ≡ unless (lent_refusal n N t) (tt {0})) where
    then_cells : {x : Result Figures Refusal} → x ≡ unless (cell_refusal n N t) (figures_as n N t) → x ≡ checked_as n N t
    then_cells e = rw by_stages (ok_next (lent_refusal n N t) (tt {0}) (figures_as n N t) (cell_refusal n N t) l e)

    pub check_faulty : {r : Refusal} → Err r ≡ walked_as n N t → Err r ≡ checked_as n N t
    unfolding walked_as
    check_faulty e = then_cells (err_any (cell_refusal n N t) (walk_of n N t) (figures_as n N t) e)

    pub check_sound : {w : Walked} {i : Index ℕ} → Ok w ≡ walked_as n N t → i ≡ index_for N w.full
        → Ok (record { edges = w.edges; rank = w.edges + 1 - N; index = i }) ≡ checked_as n N t
    unfolding figures_as rank_of index_of
    check_sound {w} {i} q g =
        (λ k. Ok (record { edges = count k; rank = count k + 1 - N; index = index k }))
        ∙ then_cells (ok_unless (cell_refusal n N t) (figures_as n N t) (walk_ok n N t q).0)
      where
        count : w.edges ≡ length (edges_of (cell n N t) N (usual n))
        count = walk_edges n N t q

        index : i ≡ index_as (index_of (cell n N t) N (usual n))
        index = g ∙ index_as_lem N w.full ∙ ap (λ b. index_as (cond b (finite N) infinite)) (walk_full n N t q)

module _ {n N : ℕ} {t : List ℕ} (L : IsLent n N t) {w : Walked} (q : Ok w ≡ walked_as n N t) where
  pub check_connected : N ≤ w.edges + 1
  check_connected = walk_connected n N t L.lettered L.based q

  pub check_few : w.edges ≤ 54526004
  check_few = omega (arith, walk_small n N t q, product_small L)
