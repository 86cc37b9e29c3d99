-- The folded table: a list folded and numbered is the canonical table of its subgroup.
--   settled_ready : what a fold leaves is what numbering asks for
--   folded_table  : the folded and numbered cells are canonical, accept exactly the members, and have no other rows
--   folded_usual  : the same over the letters of n generators in the usual order
-- By `one_table` of the theory there is no other such table. Assumes nothing.
use mathlib.Core.Path.{◌≡◌}
use mathlib.Core.List.{List, []}
use Prim.Native.Nat.{ℕ, ◌*◌, ◌≤◌, ◌<◌}
use native.Mathlib.Omega.{arith}
use Rattle.theory.specs.Words.{inv, Member}
use Rattle.theory.specs.Letters.{StandsIn, AllIn, usual}
use Rattle.theory.specs.Tables.{absent}
use Rattle.theory.specs.Canonical.{Canonical}
use Rattle.theory.specs.Graphs.{start_points}
use Rattle.theory.specs.Subgroups.{AcceptsExactly}
use Rattle.theory.proofs.TableLaws.{Bounded, length_usual, get_or_usual}
use Rattle.theory.proofs.MemLaws.{◌∈◌}
use Rattle.engine.specs.Engine.{State, start, folded}
use Rattle.engine.specs.Numbering.{Ready, Naming, numbered}
use Rattle.engine.specs.Stages.{Settled}
use Rattle.engine.proofs.FoldLaws.{settled_reached, settled_two, settled_lettered, settled_rows, folded_exact}
use Rattle.engine.proofs.NumberedLaws.{
  numbers_bounded,
  numbers_end,
  numbers_base,
  numbers_exact,
  numbered_numbers,
}

-- what is settled, with nothing pending, is ready to be numbered, in any room that holds the points made
pub settled_ready : {H : List ℕ → Type 0} {ys : List ℕ} {us : List (List ℕ)} {s : State} → Settled H ys us s → s.pending ≡ []
    → (R : ℕ) → s.made ≤ R → R ≤ absent → Ready ys R s.cells
settled_ready k e R h g =
    record {
      turn = k.stage.turn;
      reached = settled_reached k e;
      two = settled_two k e;
      lettered = settled_lettered k;
      rows = λ v y n. omega (arith, settled_rows k v y n);
      fits = g;
    }

-- the folded table of a list, in a room of R rows
pub record Table (ys : List ℕ) (R : ℕ) (ws : List (List ℕ)) (n : Naming) : Type 0 where
  pub some : 0 < n.met
  pub few : n.met ≤ R
  pub canonical : Canonical n.met ys n.cells
  pub bounded : Bounded n.cells n.met ys
  pub exact : AcceptsExactly n.cells ws

-- numbering what a fold leaves gives the folded table
pub settled_table : {ys : List ℕ} {ws : List (List ℕ)} {s : State} → Settled (Member ws) ys ws s → s.pending ≡ []
    → AcceptsExactly s.cells ws → (R : ℕ) → s.made ≤ R → R ≤ absent → Table ys R ws (numbered ys R s.cells)
settled_table {ys} {ws} {s} k e a R h g =
    let I = numbered_numbers (settled_ready k e R h g) (omega (arith, k.stage.some)) in
    record {
      some = numbers_base I;
      few = I.room;
      canonical = numbers_end I;
      bounded = numbers_bounded I;
      exact = numbers_exact I ws a;
    }

-- a list folded and numbered is the canonical table of its subgroup
pub folded_table : (ys : List ℕ) → ((z : ℕ) → StandsIn ys z → StandsIn ys (inv z)) → (ws : List (List ℕ))
    → ((w : List ℕ) → w ∈ ws → AllIn ys w) → (R : ℕ) → start_points ws ≤ R → R ≤ absent
    → Table ys R ws (numbered ys R (folded ys start ws).cells)
folded_table ys closed ws all R h g =
    let f = folded_exact ys closed ws all (omega arith) in
    settled_table f.0 f.1 f.3 R (omega (arith, f.2)) g

-- with a letter of n generators stands its inverse
pub usual_closed : (n z : ℕ) → StandsIn (usual n) z → StandsIn (usual n) (inv z)
unfolding inv
usual_closed n z s =
    let e = get_or_usual n s.0 (omega (arith, length_usual n, s.1)) in
    let h : inv z < 2 * n = omega (arith, length_usual n, s.1, s.2) in
    (inv z, omega (arith, length_usual n), get_or_usual n (inv z) h)

-- over the letters of n generators in the usual order
pub folded_usual : (n : ℕ) (ws : List (List ℕ)) → ((w : List ℕ) → w ∈ ws → AllIn (usual n) w) → (R : ℕ)
    → start_points ws ≤ R → R ≤ absent → Table (usual n) R ws (numbered (usual n) R (folded (usual n) start ws).cells)
folded_usual n ws all R h g = folded_table (usual n) (usual_closed n) ws all R h g
