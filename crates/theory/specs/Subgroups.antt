-- What is said of a subgroup by its table and by its foldings (document 01; 000, propositions 5.14 to 5.16).
--   AcceptsExactly c ws   <-> the cells c accept exactly the members of the subgroup of ws
--   TableOf n N t ws      <-> t is a canonical table of N points over n generators, and accepts exactly the members
--   Prefix ws u           <-> u begins a reduced listed word
--   EndsAlike ws E b u v  <-> u and v read from b, and end at one point exactly if u, inverse of v is a member
--   Same P E b Q F d      <-> two graphs, with their points and bases, are the same but for names
--   SameGraph, SameNames  == that of a graph and a table, and of two graphs
--   SameCoset c u v       <-> u, inverse of v is accepted
--   Cosets c ys k         <-> over the letters ys there are k cosets; Endless c ys <-> there are more than any number
-- Assumes nothing.
use Rattle.std.specs.Prelude.{◌≡◌, ◌↔◌, ℕ, ◌<◌, length, get_or}
use mathlib.Core.List.{List, [], ◌++◌, Memᴰ}
use Rattle.theory.specs.Words.{reduced, inverse_of, Member}
use Rattle.theory.specs.Letters.{usual, AllIn}
use Rattle.theory.specs.Tables.{Cells, cell, Leads, Steps, Reads, Accepts}
use Rattle.theory.specs.Canonical.{Canonical}
use Rattle.theory.specs.Graphs.{Graph, Along}

abbrev pub AcceptsExactly : Cells → List (List ℕ) → Type 0
AcceptsExactly c ws = ((q : List ℕ) → Member ws q → Accepts c q) × ((q : List ℕ) → Accepts c q → Member ws q)

pub record TableOf (n N : ℕ) (t : List ℕ) (ws : List (List ℕ)) : Type 0 where
  pub based : 0 < N
  pub canonical : Canonical N (usual n) (cell n N t)
  pub accepts : AcceptsExactly (cell n N t) ws

abbrev pub Prefix : List (List ℕ) → List ℕ → Type 0
Prefix ws u = (i : ℕ) × (u' : List ℕ) × (i < length ws) × (u ++ u' ≡ reduced (get_or ws i []))

pub record EndsAlike (ws : List (List ℕ)) (E : Steps) (b : ℕ) (u v : List ℕ) : Type 0 where
  pub first : ℕ
  pub second : ℕ
  pub first_reads : Reads E b u first
  pub second_reads : Reads E b v second
  pub alike : (first ≡ second) ↔ Member ws (u ++ inverse_of v)

-- each point of one has its point of the other, bases and edges too
pub record Same (P : ℕ → Type 0) (E : Steps) (b : ℕ) (Q : ℕ → Type 0) (F : Steps) (d : ℕ) : Type 0 where
  pub onto : ℕ → ℕ
  pub back : ℕ → ℕ
  pub base : onto b ≡ d
  pub lands : (p : ℕ) → P p → Q (onto p)
  pub returns : (q : ℕ) → Q q → P (back q)
  pub back_onto : (p : ℕ) → P p → back (onto p) ≡ p
  pub onto_back : (q : ℕ) → Q q → onto (back q) ≡ q
  pub steps : (p y x : ℕ) → E p y x → F (onto p) y (onto x)
  pub steps_back : (q y z : ℕ) → F q y z → E (back q) y (back z)

-- p is a point of g
abbrev pub PointOf : Graph → ℕ → Type 0
PointOf g p = Memᴰ p g.points

abbrev pub SameGraph : Graph → ℕ → Cells → Type 0
SameGraph g N c = Same (PointOf g) (Along g.edges) g.base (λ v. v < N) (Leads c) 0

abbrev pub SameNames : Graph → Graph → Type 0
SameNames g h = Same (PointOf g) (Along g.edges) g.base (PointOf h) (Along h.edges) h.base

abbrev pub SameCoset : Cells → List ℕ → List ℕ → Type 0
SameCoset c u v = Accepts c (u ++ inverse_of v)

-- k words, no two in one coset, and each word in the coset of one of them
pub record Cosets (c : Cells) (ys : List ℕ) (k : ℕ) : Type 0 where
  pub word : (i : ℕ) → i < k → List ℕ
  pub over : (i : ℕ) (h : i < k) → AllIn ys (word i h)
  pub apart : (i j : ℕ) (h : i < k) (g : j < k) → SameCoset c (word i h) (word j g) → i ≡ j
  pub cover : (w : List ℕ) → AllIn ys w → (i : ℕ) × (h : i < k) × SameCoset c w (word i h)

-- a word for each number, no two in one coset
pub record Endless (c : Cells) (ys : List ℕ) : Type 0 where
  pub word : ℕ → List ℕ
  pub over : (i : ℕ) → AllIn ys (word i)
  pub apart : (i j : ℕ) → SameCoset c (word i) (word j) → i ≡ j
