-- What a caller learns from an outcome of `fold` (document 01).
--   refused_by_first_cause        : a list is refused by a cause at a place exactly if that is the first cause that applies
--   refused_untouched             : and both buffers are as they were
--   made_done                     : figures are given only where nothing is refused, and are those of `Done`
--   every_list_folds              : where nothing is refused there are figures, and the table is the list's
--   fold_exact                    : the table accepts exactly the members
--   folds_equal_iff_same_subgroup : two tables over one alphabet are equal exactly if the lists generate the same subgroup
--   fold_counts_are_folds         : merging folds and points are the start points, closing folds and rank the words not empty
--   folds_few                     : all folds together are at most S, and so at most L
--   fold_prefixes                 : when two prefixes of reduced listed words end at one point
-- Assumes nothing.
use mathlib.Core.Path.{◌≡◌, refl, ◌∙◌, ap, subst}
use mathlib.Core.Bool.{true}
use mathlib.Core.Logic.{◌↔◌}
use mathlib.Core.Option.{Option, none, some}
use mathlib.Core.List.{List}
use Prim.Native.Nat.{ℕ, ◌+◌, ◌≤◌}
use native.Mathlib.Omega.{arith}
use lib.ListN.{length}
use Rattle.std.specs.declared.result.Result.{Result}
use Rattle.std.specs.declared.result.Result.TheVariants.{Ok, Err}
use Rattle.theory.specs.Words.{Member, SameSubgroup}
use Rattle.theory.specs.Letters.{usual, letters_in, words_of}
use Rattle.theory.specs.Refusals.{Refusal as FirstCause, First}
use Rattle.theory.specs.Tables.{cell, Leads, is_accepted}
use Rattle.theory.specs.Graphs.{start_graph, reduced_length, non_empty_words}
use Rattle.theory.specs.Basis.{rank_of}
use Rattle.theory.specs.Subgroups.{TableOf, Prefix, EndsAlike}
use Rattle.theory.proofs.FoldCounts.{folding_exists}
use Rattle.theory.proofs.Main.{member_iff_reads_back, tables_equal_iff_same_subgroup, fold_counts, folds_at_most, prefixes_in_the_table}
use Rattle.refusals.specs.Given.{number_of, refusal_at, given}
use Rattle.refusals.specs.declared.Cause.{Cause}
use Rattle.refusals.specs.declared.Refusal.{Refusal}
use Rattle.refusals.proofs.NumberLaws.{given_first, refusal_given}
use Rattle.tables.specs.Checks.{figures_as}
use Rattle.tables.specs.declared.Figures.{Figures}
use Rattle.folds.specs.declared.FoldFigures.{FoldFigures}
use Rattle.folds.specs.Causes.{FoldCause, fold_refusal}
use Rattle.folds.specs.Folds.{Done, OutcomeFor, FoldOutcome}
use Rattle.folds.proofs.CauseLaws.{fold_numbered, fold_refusal_first}

-- ── Refusals ──

module _ (n : ℕ) (list table work : List ℕ) (r : Result FoldFigures Refusal) (table' work' : List ℕ)
    (h : FoldOutcome n list table work r table' work') where
  -- an outcome, by the refusal that there is
  outcome : {o : Option FirstCause} → fold_refusal n list (length table) (length work) ≡ o → OutcomeFor n list table work o r table' work'
  outcome e = subst (λ o. OutcomeFor n list table work o r table' work') e h

  refused : (c : Refusal) → r ≡ Err c
      → (fold_refusal n list (length table) (length work) ≡ some (record { number = number_of c.cause; place = c.place }))
      × (table' ≡ table)
      × (work' ≡ work)
  refused c e = go (fold_refusal n list (length table) (length work)) refl
    where
      go : (o : Option FirstCause) → fold_refusal n list (length table) (length work) ≡ o
          → (fold_refusal n list (length table) (length work) ≡ some (record { number = number_of c.cause; place = c.place }))
          × (table' ≡ table)
          × (work' ≡ work)
      go none q = let d = (outcome q).1 in let z : ◌≡◌ {A = ℕ} 0 1 = cc in absurd (omega arith)
      go (some f) q =
          let d = outcome q in
          let same : given f ≡ c = cc (d.0, e) in
          let first = fold_refusal_first n list (length table) (length work) f.number f.place in
          let numbered = fold_numbered n list (length table) (length work) f.number f.place (first.0 q).applies in
          (q ∙ given_first f c.cause c.place numbered same, d.1, d.2)

  pub refused_by_first_cause : (cause : Cause) (p : ℕ)
      → (r ≡ Err (refusal_at cause p)) ↔ First (FoldCause n list (length table) (length work)) (number_of cause) p
  refused_by_first_cause cause p =
      let first = fold_refusal_first n list (length table) (length work) (number_of cause) p in (
        λ e. first.0 (refused (refusal_at cause p) e).0,
        λ c. (outcome (first.1 c)).0 ∙ ap Err (refusal_given cause p),
      )

  pub refused_untouched : (c : Refusal) → r ≡ Err c → (table' ≡ table) × (work' ≡ work)
  refused_untouched c e = let q = refused c e in (q.1, q.2)

  pub every_list_folds : fold_refusal n list (length table) (length work) ≡ none
      → (f : FoldFigures) × (r ≡ Ok f) × TableOf n f.points table' (words_of list)
  every_list_folds e = let d = outcome e in (d.0, d.1, d.2.subgroup)

-- ── Figures and tables ──

module _ (n : ℕ) (list table work : List ℕ) (f : FoldFigures) (table' work' : List ℕ)
    (h : FoldOutcome n list table work (Ok f) table' work') where
  pub made_done : (fold_refusal n list (length table) (length work) ≡ none) × Done n list table work f table' work'
  made_done = go (fold_refusal n list (length table) (length work)) refl h
    where
      go : (o : Option FirstCause) → fold_refusal n list (length table) (length work) ≡ o
          → OutcomeFor n list table work o (Ok f) table' work'
          → (fold_refusal n list (length table) (length work) ≡ none) × Done n list table work f table' work'
      go none e k =
          let same : k.0 ≡ f = cc k.1 in
          (e, subst (λ g. Done n list table work g table' work') same k.2)
      go (some c) e k = let q = k.0 in let z : ◌≡◌ {A = ℕ} 0 1 = cc in absurd (omega arith)

  pub fold_exact : (q : List ℕ) → (is_accepted (cell n f.points table') q ≡ true) ↔ Member (words_of list) q
  fold_exact = member_iff_reads_back made_done.1.subgroup

  -- the rank is the table's
  rank : f.counts.rank ≡ rank_of (cell n f.points table') f.points (usual n)
  unfolding figures_as
  rank = ap (λ (c : Figures). c.rank) made_done.1.counts

  pub fold_counts_are_folds
      : (f.merging + f.points ≡ f.start.points) × (f.closing + f.counts.rank ≡ non_empty_words (words_of list))
  fold_counts_are_folds =
      let d = made_done.1 in
      let x = folding_exists (start_graph (words_of list)) in
      let c = fold_counts d.subgroup x.3 in
      let e = d.folds x.0 x.1 x.2 x.3 in
      (omega (arith, c.0, e.0, d.start_points), omega (arith, c.1, e.1, rank))

  pub folds_few
      : (f.merging + f.closing ≤ reduced_length (words_of list)) × (f.merging + f.closing ≤ letters_in list)
  folds_few =
      let x = folding_exists (start_graph (words_of list)) in
      let c = folds_at_most list x.3.0 in
      let e = made_done.1.folds x.0 x.1 x.2 x.3 in
      (omega (arith, c.0, e.0, e.1), omega (arith, c.1, e.0, e.1))

  pub fold_prefixes : (u v : List ℕ) → Prefix (words_of list) u → Prefix (words_of list) v
      → EndsAlike (words_of list) (Leads (cell n f.points table')) 0 u v
  fold_prefixes = prefixes_in_the_table made_done.1.subgroup

pub folds_equal_iff_same_subgroup : (n : ℕ)
    (us table work : List ℕ) (f : FoldFigures) (t t' : List ℕ) → FoldOutcome n us table work (Ok f) t t'
    → (ws room rest : List ℕ) (g : FoldFigures) (s s' : List ℕ) → FoldOutcome n ws room rest (Ok g) s s'
    → ((f.points ≡ g.points) × ((v y : ℕ) → cell n f.points t v y ≡ cell n g.points s v y))
    ↔ SameSubgroup (words_of us) (words_of ws)
folds_equal_iff_same_subgroup n us table work f t t' h ws room rest g s s' k =
    tables_equal_iff_same_subgroup (made_done n us table work f t t' h).1.subgroup (made_done n ws room rest g s s' k).1.subgroup
