-- What stands at every moment of a fold.
--   Live hand s v       <-> v is a root, or pending, or the point in hand; hand is empty, or the point of a turn
--   Stage H label ys hand s <-> what every operation keeps, for a subgroup H, a label for each point, the letters ys
--   weight s             == pending entries and roots together: an entry more is a root less
--   Roomy s             <-> these are no more than the points made: there is room for the pending list
--   Joinable .. s a y b <-> a and b may be joined by y
--   Handles .. s v u    <-> v is in hand, u is another live name of its point: the edges of v move to u
--   Chainable .. s a w b <-> a chain may lead from a to b by w
--   Settled H ys us s   <-> s stands between two words, the words us taken in
-- Labels are given when a point is made and never change. Assumes nothing.
use Rattle.std.specs.Prelude.{◌≡◌, ◌⊎◌, ℕ, ◌+◌, ◌≤◌, ◌<◌, length}
use mathlib.Core.List.{List, [], ◌∷◌, ◌++◌, Memᴰ}
use Rattle.theory.specs.Words.{inv, reduced, Reduced, inverse_of}
use Rattle.theory.specs.Letters.{StandsIn, AllIn}
use Rattle.theory.specs.Tables.{absent, Leads, Reads}
use Rattle.theory.specs.Graphs.{new_points}
use Rattle.engine.specs.Roots.{root_count}
use Rattle.engine.specs.Engine.{State}
use Rattle.engine.specs.Points.{Between, TwoBetween}

abbrev pub Live : List ℕ → State → ℕ → Type 0
Live hand s v = (s.root v ≡ v) ⊎ (Memᴰ v (hand ++ s.pending))

pub record Stage (H : List ℕ → Type 0) (label : ℕ → List ℕ) (ys hand : List ℕ) (s : State) : Type 0 where
  -- the inverse law
  pub turn : (v y x : ℕ) → Leads s.cells v y x → Leads s.cells x (inv y) v
  -- only points made, and only letters of ys, have cells
  pub within : (v y x : ℕ) → Leads s.cells v y x → v < s.made
  pub lettered : (v y x : ℕ) → Leads s.cells v y x → StandsIn ys y
  -- the base is made, and no point is the absent mark
  pub some : 0 < s.made
  pub fits : s.made ≤ absent
  -- roots: no greater than their names, their own roots; a name not made is its own root
  pub low : (v : ℕ) → s.root v ≤ v
  pub idem : (v : ℕ) → s.root (s.root v) ≡ s.root v
  pub unmade : (v : ℕ) → s.made ≤ v → s.root v ≡ v
  -- a point with a cell is a root or pending, and no pending point is a root
  pub live : (v y x : ℕ) → Leads s.cells v y x → Live hand s v
  pub waiting : (v : ℕ) → Memᴰ v (hand ++ s.pending) → s.root v ≡ v → ⊥
  -- label, letter, inverse label is in H for each cell, and label, inverse label for the names of one point
  pub base : label 0 ≡ []
  pub labelled : (v y x : ℕ) → Leads s.cells v y x → H (label v ++ (y ∷ inverse_of (label x)))
  pub alike : (v : ℕ) → H (label v ++ inverse_of (label (s.root v)))

unfoldable pub weight : State → ℕ
weight s = length s.pending + root_count s.root s.made

abbrev pub Roomy : State → Type 0
Roomy s = weight s ≤ s.made

-- both are made and live, y and its inverse are letters, and the edge fits the labels
pub record Joinable (H : List ℕ → Type 0) (label : ℕ → List ℕ) (ys hand : List ℕ) (s : State) (a y b : ℕ) : Type 0 where
  pub from : a < s.made
  pub to : b < s.made
  pub from_live : Live hand s a
  pub to_live : Live hand s b
  pub letter : StandsIn ys y
  pub letter_back : StandsIn ys (inv y)
  pub label_in : H (label a ++ (y ∷ inverse_of (label b)))

-- v stays in hand while its edges move, and u stays live even if it is absorbed meanwhile
pub record Handles (H : List ℕ → Type 0) (label : ℕ → List ℕ) (ys : List ℕ) (s : State) (v u : ℕ) : Type 0 where
  pub stage : Stage H label ys (v ∷ []) s
  pub one : s.root u ≡ s.root v
  pub other : u ≡ v → ⊥
  pub alive : Live (v ∷ []) s u
  pub inside : u < s.made

-- the ends are made and live, the word is reduced and fits the labels, and there is room for its points
pub record Chainable (H : List ℕ → Type 0) (label : ℕ → List ℕ) (ys : List ℕ) (s : State) (a : ℕ) (w : List ℕ) (b : ℕ) : Type 0 where
  pub stage : Stage H label ys [] s
  pub from : a < s.made
  pub to : b < s.made
  pub from_live : Live [] s a
  pub to_live : Live [] s b
  pub letters : AllIn ys w
  pub reduces : Reduced w
  pub label_in : H (label a ++ (w ++ inverse_of (label b)))
  pub room : s.made + new_points w ≤ absent

pub record Settled (H : List ℕ → Type 0) (ys : List ℕ) (us : List (List ℕ)) (s : State) : Type 0 where
  pub label : ℕ → List ℕ
  pub stage : Stage H label ys [] s
  pub roomy : Roomy s
  -- each word taken in is a loop at the base
  pub loops : (w : List ℕ) → Memᴰ w us → Reads (Between s) 0 (reduced w) 0
  -- each point made is reached from the base, and has two letters if it is not the base
  pub reached : (v : ℕ) → v < s.made → (w : List ℕ) × Reads (Between s) 0 w (s.root v)
  pub two : (v : ℕ) → 1 ≤ v → v < s.made → TwoBetween s v
