-- Folding (document 01, 'Folding'; 004, definitions 2.7 and 2.8, mended: see docs/DECISIONS.md; 000, definition 5.10).
--   Pair e f a b            <-> edges e and f of one generator leave one point, or enter one; their other ends are a and b
--   FoldStep g h kind       <-> h is g after one fold: two edges at different places of the edge list make a pair, either goes, and
--                              where the other ends differ either name is replaced by the other everywhere
--   Folded g                <-> no fold is possible
--   Folding g h m k         <-> h comes from g by folds, m merging and k closing
--   CompleteFolding g h m k <-> the same, and h is folded
-- Surprise: two edges with the same three numbers at two places are two edges, and make a pair. Assumes nothing.
use Rattle.std.specs.Prelude.{◌≡◌, ◌⊎◌, cond, List, [], ◌∷◌, map, ℕ, zero, suc, ◌<◌, eqb, length, get_or}
use Rattle.theory.specs.Graphs.{Edge, Graph}

pub data Kind : Type 0 where
  merging : Kind
  closing : Kind

abbrev pub Pair : Edge → Edge → ℕ → ℕ → Type 0
Pair e f a b =
    (e.generator ≡ f.generator)
    × (((e.source ≡ f.source) × (e.target ≡ a) × (f.target ≡ b)) ⊎ ((e.target ≡ f.target) × (e.source ≡ a) × (f.source ≡ b)))

-- the edge at a place of the edge list
abbrev pub edge_at : Graph → ℕ → Edge
edge_at g i = get_or g.edges i (record { source = 0; generator = 0; target = 0 })

-- a list without the element at place i
unfoldable pub remove_at : ℕ → List Edge → List Edge
remove_at i [] = []
remove_at zero (e ∷ es) = es
remove_at (suc i) (e ∷ es) = e ∷ remove_at i es

-- the name of a point after a is renamed to b
unfoldable pub renamed : ℕ → ℕ → ℕ → ℕ
renamed a b v = cond (eqb v a) b v

unfoldable pub renamed_edge : ℕ → ℕ → Edge → Edge
renamed_edge a b e =
    record { source = renamed a b e.source; generator = e.generator; target = renamed a b e.target }

-- the points without a
unfoldable pub without : ℕ → List ℕ → List ℕ
without a [] = []
without a (v ∷ vs) = cond (eqb v a) (without a vs) (v ∷ without a vs)

-- g without the edge at place j and with the name b for a, in every edge, the points and the base
unfoldable pub folded : Graph → ℕ → ℕ → ℕ → Graph
folded g j a b =
    record {
      base = renamed a b g.base;
      points = cond (eqb a b) g.points (without a g.points);
      edges = map (renamed_edge a b) (remove_at j g.edges);
    }

-- a fold that joins two different points is merging, any other is closing
abbrev pub kind_of : ℕ → ℕ → Kind
kind_of a b = cond (eqb a b) closing merging

pub record FoldStep (g h : Graph) (kind : Kind) : Type 0 where
  -- the places of the edge that stays and the edge that goes
  pub stays : ℕ
  pub goes : ℕ
  pub different : stays ≡ goes → ⊥
  pub stays_in : stays < length g.edges
  pub goes_in : goes < length g.edges
  -- the name that is replaced and the name that replaces it
  pub old : ℕ
  pub new : ℕ
  pub pair : Pair (edge_at g stays) (edge_at g goes) old new ⊎ Pair (edge_at g stays) (edge_at g goes) new old
  pub kind_is : kind ≡ kind_of old new
  pub outcome : h ≡ folded g goes old new

abbrev pub Folded : Graph → Type 0
Folded g =
    (i j a b : ℕ) → (i ≡ j → ⊥) → i < length g.edges → j < length g.edges → Pair (edge_at g i) (edge_at g j) a b → ⊥

pub data Folding : Graph → Graph → ℕ → ℕ → Type 0 where
  done : {g : Graph} → Folding g g zero zero
  merge : {f g h : Graph} {m k : ℕ} → FoldStep f g merging → Folding g h m k → Folding f h (suc m) k
  close : {f g h : Graph} {m k : ℕ} → FoldStep f g closing → Folding g h m k → Folding f h m (suc k)

abbrev pub CompleteFolding : Graph → Graph → ℕ → ℕ → Type 0
CompleteFolding g h m k = Folding g h m k × Folded h
