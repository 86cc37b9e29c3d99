-- What is claimed of a case: an alphabet, a list and what document 01 says of it. The cases themselves are in `Cases`.
--   Case           == an alphabet, a list text, its table, queries, products of listed words, and what is expected
--   figures_of e    == what document 01's definitions compute for the list, its table and its queries
--   Fine n lines s <-> no cause of refusal applies to a list or query
--   Answered       <-> a member with its one expression in the basis, or a word outside that has none
--   Shown e f      <-> list and queries are not refused, the table is the list's, and everything that f says of it holds
--   AsDocumented e <-> what is expected holds: a refusal is the first cause, and what is shown of a list is `Shown`
-- Assumes nothing.
use Rattle.std.specs.Prelude.{◌≡◌, Bool, true, false, List, [], ◌∷◌, map, ℕ, ℤ, length}
use Rattle.std.proofs.Math.Option.{Option, none, some}
use Prim.Native.String.{String}
use Rattle.theory.specs.Words.{reduced, ◌≈◌, product, AllNames, Member, Tidy, SameSubgroup}
use Rattle.theory.specs.Letters.{usual, words_of}
use Rattle.theory.specs.Texts.{bytes, word}
use Rattle.theory.specs.Refusals.{First, TextCause}
use Rattle.theory.specs.Tables.{Cells, cell}
use Rattle.theory.specs.Graphs.{Graph, start_graph}
use Rattle.theory.specs.Folds.{CompleteFolding}
use Rattle.theory.specs.Basis.{Index, edges_of, basis_of, rank_of, index_of, is_normal}
use Rattle.theory.specs.Files.{table_file}
use Rattle.theory.specs.Subgroups.{TableOf, SameGraph}
use Rattle.cases.specs.Printed.{answer_of, merges_of, closes_of, printed}

pub record Figures : Type 0 where
  pub edges : ℕ
  pub rank : ℕ
  pub index : Index
  pub normal : Bool
  pub start_points : ℕ
  pub start_edges : ℕ
  pub merges : ℕ
  pub closes : ℕ
  pub basis : List (List ℕ)
  -- the expression of each query, or none for a word outside
  pub answers : List (Option (List ℤ))
  -- the products, reduced
  pub reductions : List (List ℕ)
  pub file : List ℕ
  -- what is printed
  pub lines : List ℕ

pub data Outcome : Type 0 where
  refused : ℕ → ℕ → Outcome
  accepted : Figures → Outcome

pub record Case : Type 0 where
  pub n : ℕ
  pub text : List ℕ
  pub points : ℕ
  pub table : List ℕ
  pub queries : List String
  pub products : List (List ℤ)
  -- for each basis word a product of listed words that reduces to it
  pub generated : List (List ℤ)
  pub expected : Outcome

-- the words of the list, the table's cells, and the basis
abbrev pub listed : Case → List (List ℕ)
listed e = words_of e.text

abbrev pub cells : Case → Cells
cells e = cell e.n e.points e.table

abbrev pub basis_in : Case → List (List ℕ)
basis_in e = basis_of (cells e) e.points (usual e.n)

unfoldable pub figures_of : Case → Figures
figures_of e =
    let N = e.points in
    let ys = usual e.n in
    record {
      edges = length (edges_of (cells e) N ys);
      rank = rank_of (cells e) N ys;
      index = index_of (cells e) N ys;
      normal = is_normal (cells e) N ys;
      start_points = length (start_graph (listed e)).points;
      start_edges = length (start_graph (listed e)).edges;
      merges = merges_of (listed e) N;
      closes = closes_of (listed e) (rank_of (cells e) N ys);
      basis = basis_in e;
      answers = map (λ q. answer_of (cells e) N ys (word q)) e.queries;
      reductions = map (λ ks. reduced (product (listed e) ks)) e.products;
      file = table_file e.n N e.table;
      lines = printed e.n N e.table e.text (map bytes e.queries);
    }

abbrev pub Fine : ℕ → Bool → List ℕ → Type 0
Fine n lines text = (k p : ℕ) → TextCause n lines text k p → ⊥

abbrev pub AllFine : ℕ → List String → Type 0
AllFine n [] = Unit {0}
AllFine n (q ∷ qs) = Fine n false (bytes q) × AllFine n qs

-- ks is the one product of words of the basis b, none beside its own inverse, that reduces to q
pub record Expressed (b : List (List ℕ)) (q : List ℕ) (ks : List ℤ) : Type 0 where
  pub names : AllNames (length b) ks
  pub tidy : Tidy ks
  pub reduces : product b ks ≈ q
  pub only : (js : List ℤ) → AllNames (length b) js → Tidy js → product b js ≈ q → js ≡ ks

-- a query is answered by its expression if it is a member, by none if it is not: no product of basis words reduces to it then
abbrev pub Answered : List (List ℕ) → List (List ℕ) → List ℕ → Option (List ℤ) → Type 0
Answered ws b q none = (Member ws q → ⊥) × ((ks : List ℤ) → AllNames (length b) ks → product b ks ≈ q → ⊥)
Answered ws b q (some ks) = Member ws q × Expressed b q ks

abbrev pub AllAnswered : List (List ℕ) → List (List ℕ) → List String → List (Option (List ℤ)) → Type 0
AllAnswered ws b [] os = os ≡ []
AllAnswered ws b (q ∷ qs) [] = ⊥
AllAnswered ws b (q ∷ qs) (o ∷ os) = Answered ws b (word q) o × AllAnswered ws b qs os

pub record Shown (e : Case) (f : Figures) : Type 0 where
  -- no cause of refusal applies to the list, nor to a query
  pub fine : Fine e.n true e.text
  pub asked : AllFine e.n e.queries
  -- the table is canonical and accepts exactly the members of the list's subgroup
  pub table : TableOf e.n e.points e.table (listed e)
  -- its figures, by definition
  pub figures : figures_of e ≡ f
  -- its basis generates the subgroup
  pub generates : SameSubgroup f.basis (listed e)
  -- its members are the products of listed words, each with one expression
  pub answers : AllAnswered (listed e) f.basis e.queries f.answers
  -- every complete folding has these counts, and ends in the table's graph but for names
  pub folds : (h : Graph) (m k : ℕ) → CompleteFolding (start_graph (listed e)) h m k
      → (m ≡ f.merges) × (k ≡ f.closes) × SameGraph h e.points (cells e)
  -- there is one
  pub folding : (h : Graph) × CompleteFolding (start_graph (listed e)) h f.merges f.closes

abbrev pub Claimed : Case → Outcome → Type 0
Claimed e (refused k p) = First (TextCause e.n true e.text) k p
Claimed e (accepted f) = Shown e f

abbrev pub AsDocumented : Case → Type 0
AsDocumented e = Claimed e e.expected

abbrev pub Every : (Case → Type 0) → List Case → Type 0
Every P [] = Unit {0}
Every P (e ∷ es) = P e × Every P es
