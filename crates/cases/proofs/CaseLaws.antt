-- From what the checker computes of a case to what is claimed of it (`specs/Claims`).
--   spans ws kss bs == each word of bs is the reduction of the product of ws that stands beside it in kss
--   outcome e       == the refusal of the list, or its figures
--   tests e         == the table is canonical and accepts the listed words, its basis words are products of them, no query is refused,
--                      and there are no more points than the start graph has, and no greater rank than there are words
--   ready e         == the list is refused, or passes the tests
--   all_documented   : cases that compute to what is expected, and pass, are as documented
-- Assumes nothing.
use mathlib.Core.Path.{◌≡◌, refl, sym, ◌∙◌, ap, subst}
use mathlib.Core.Bool.{Bool, true, false, ◌&&◌, true≢false}
use mathlib.Core.Option.{Option, none, some}
use mathlib.Core.List.{List, [], ◌∷◌, map}
use Prim.Native.Nat.{ℕ, zero, suc, ◌≤◌, ◌<◌}
use Prim.Native.String.{String}
use native.Mathlib.Omega.{arith}
use lib.Dec.{eqb, ltb, leb}
use lib.IntN.{ℤ, pos, negsuc}
use lib.ListN.{length, get_or}
use borrow.Author.Tests.{eqb-true, ltb-true, leb-true}
use Rattle.theory.specs.Words.{reduced, product, Names, AllNames, Member}
use Rattle.theory.specs.Letters.{usual}
use Rattle.theory.specs.Texts.{bytes, word}
use Rattle.theory.specs.Refusals.{Refusal, text_refusal}
use Rattle.theory.specs.Tables.{Accepts, is_accepted}
use Rattle.theory.specs.Canonical.{Canonical, faulty_cell}
use Rattle.theory.specs.Graphs.{Graph, start_graph, non_empty_words}
use Rattle.theory.specs.Folds.{CompleteFolding}
use Rattle.theory.specs.Basis.{all, expression_of, rank_of}
use Rattle.theory.specs.Subgroups.{TableOf, SameGraph}
use Rattle.theory.proofs.WordLaws.{by_test}
use Rattle.theory.proofs.RefusalLaws.{and_true, refusal_first, refusal_none}
use Rattle.theory.proofs.ReadLaws.{member_subgroup, canonical_inverse, is_accepted_sound, loops_accepted}
use Rattle.theory.proofs.CanonicalLaws.{table_none_canonical}
use Rattle.theory.proofs.PathLaws.{usual_setting}
use Rattle.theory.proofs.ExpressionLaws.{basis_generates}
use Rattle.theory.proofs.FoldEnds.{member_least}
use Rattle.theory.proofs.FoldCounts.{folding_exists}
use Rattle.theory.proofs.Main.{
  member_iff_reads_back,
  expression_reduces,
  express_unique,
  outside_has_none,
  fold_counts,
  folds_to_the_table,
  basis_generates_the_subgroup,
}
use Rattle.cases.specs.Printed.{answer_of, merges_of, closes_of}
use Rattle.cases.specs.Claims.{
  Outcome,
  refused,
  accepted,
  Case,
  listed,
  cells,
  basis_in,
  figures_of,
  AllFine,
  Answered,
  AllAnswered,
  Shown,
  Claimed,
  AsDocumented,
  Every,
}

-- ── Tests ──

unfoldable pub is_nothing : {A : Type 0} → Option A → Bool
is_nothing none = true
is_nothing (some p) = false

nothing_none : {A : Type 0} (o : Option A) → is_nothing o ≡ true → o ≡ none
unfolding is_nothing
nothing_none none e = refl
nothing_none (some p) e = absurd (true≢false (sym e))

unfoldable pub same_word : List ℕ → List ℕ → Bool
same_word [] [] = true
same_word [] (x ∷ w) = false
same_word (y ∷ u) [] = false
same_word (y ∷ u) (x ∷ w) = eqb y x && same_word u w

same_word_sound : (u w : List ℕ) → same_word u w ≡ true → u ≡ w
unfolding same_word
same_word_sound [] [] e = refl
same_word_sound [] (x ∷ w) e = absurd (true≢false (sym e))
same_word_sound (y ∷ u) [] e = absurd (true≢false (sym e))
same_word_sound (y ∷ u) (x ∷ w) e =
    let a = and_true (eqb y x) (same_word u w) e in
    ap (λ z. z ∷ u) (eqb-true y x a.0) ∙ ap (λ l. x ∷ l) (same_word_sound u w a.1)

unfoldable pub is_named : ℕ → ℤ → Bool
is_named m (pos zero) = false
is_named m (pos (suc k)) = ltb k m
is_named m (negsuc k) = ltb k m

unfoldable pub all_named : ℕ → List ℤ → Bool
all_named m [] = true
all_named m (k ∷ ks) = is_named m k && all_named m ks

is_named_sound : (m : ℕ) (k : ℤ) → is_named m k ≡ true → Names m k
unfolding is_named
is_named_sound m (pos zero) e = absurd (true≢false (sym e))
is_named_sound m (pos (suc k)) e = ltb-true k m e
is_named_sound m (negsuc k) e = ltb-true k m e

all_named_sound : (m : ℕ) (ks : List ℤ) → all_named m ks ≡ true → AllNames m ks
unfolding all_named
all_named_sound m [] e = tt
all_named_sound m (k ∷ ks) e =
    let a = and_true (is_named m k) (all_named m ks) e in (is_named_sound m k a.0, all_named_sound m ks a.1)

unfoldable pub spans : List (List ℕ) → List (List ℤ) → List (List ℕ) → Bool
spans ws kss [] = true
spans ws [] (b ∷ bs) = false
spans ws (ks ∷ kss) (b ∷ bs) =
    all_named (length ws) ks && (same_word (reduced (product ws ks)) (reduced b) && spans ws kss bs)

-- each spanned word is a member
spans_member : (ws : List (List ℕ)) (kss : List (List ℤ)) (bs : List (List ℕ)) → spans ws kss bs ≡ true
    → (k : ℕ) → k < length bs → Member ws (get_or bs k [])
unfolding spans
spans_member ws kss [] e k h = absurd (omega arith)
spans_member ws [] (b ∷ bs) e k h = absurd (true≢false (sym e))
spans_member ws (ks ∷ kss) (b ∷ bs) e k h = at k h (spans_member ws kss bs d.1)
  where
    c : (all_named (length ws) ks ≡ true) × ((same_word (reduced (product ws ks)) (reduced b) && spans ws kss bs) ≡ true)
    c = and_true (all_named (length ws) ks) (same_word (reduced (product ws ks)) (reduced b) && spans ws kss bs) e

    d : (same_word (reduced (product ws ks)) (reduced b) ≡ true) × (spans ws kss bs ≡ true)
    d = and_true (same_word (reduced (product ws ks)) (reduced b)) (spans ws kss bs) c.1

    at : (k : ℕ) → k < suc (length bs) → ((j : ℕ) → j < length bs → Member ws (get_or bs j []))
        → Member ws (get_or (b ∷ bs) k [])
    at zero h f =
        record {
          numbers = ks;
          listed = all_named_sound (length ws) ks c.0;
          reduces = same_word_sound (reduced (product ws ks)) (reduced b) d.0;
        }
    at (suc k) h f = f k (omega arith)

all_at : (f : List ℕ → Bool) (ws : List (List ℕ)) → all f ws ≡ true
    → (k : ℕ) → k < length ws → f (get_or ws k []) ≡ true
unfolding all
all_at f [] e k h = absurd (omega arith)
all_at f (w ∷ ws) e zero h = (and_true (f w) (all f ws) e).0
all_at f (w ∷ ws) e (suc k) h = all_at f ws (and_true (f w) (all f ws) e).1 k (omega arith)

-- no query is refused
unfoldable pub none_refused : ℕ → List String → Bool
none_refused n [] = true
none_refused n (q ∷ qs) = is_nothing (text_refusal n false (bytes q)) && none_refused n qs

none_refused_sound : (n : ℕ) (qs : List String) → none_refused n qs ≡ true → AllFine n qs
unfolding none_refused
none_refused_sound n [] e = tt
none_refused_sound n (q ∷ qs) e =
    let a = and_true (is_nothing (text_refusal n false (bytes q))) (none_refused n qs) e in
    (refusal_none n false (bytes q) (nothing_none _ a.0), none_refused_sound n qs a.1)

-- ── Cases ──

abbrev pub outcome_for : Case → Option Refusal → Outcome
outcome_for e none = accepted (figures_of e)
outcome_for e (some r) = refused r.number r.place

unfoldable pub outcome : Case → Outcome
outcome e = outcome_for e (text_refusal e.n true e.text)

module _ (e : Case) where
  -- the rank of its table
  abbrev rank : ℕ
  rank = rank_of (cells e) e.points (usual e.n)

  unfoldable pub tests : Bool
  tests =
      ltb 0 e.n
      && (ltb 0 e.points
      && (is_nothing (faulty_cell e.points (usual e.n) (cells e))
      && (all (is_accepted (cells e)) (listed e)
      && (spans (listed e) e.generated (basis_in e)
      && (none_refused e.n e.queries
      && (leb e.points (length (start_graph (listed e)).points)
      && leb rank (non_empty_words (listed e))))))))

  record Passed : Type 0 where
    alphabet : 0 < e.n
    based : 0 < e.points
    canonical : Canonical e.points (usual e.n) (cells e)
    accepted_words : (k : ℕ) → k < length (listed e) → Accepts (cells e) (get_or (listed e) k [])
    members : (k : ℕ) → k < length (basis_in e) → Member (listed e) (get_or (basis_in e) k [])
    asked : AllFine e.n e.queries
    merging : e.points ≤ length (start_graph (listed e)).points
    closing : rank ≤ non_empty_words (listed e)

  passed : tests ≡ true → Passed
  unfolding tests
  passed r =
      let a = and_true _ _ r in
      let b = and_true _ _ a.1 in
      let c = and_true _ _ b.1 in
      let d = and_true _ _ c.1 in
      let g = and_true _ _ d.1 in
      let h = and_true _ _ g.1 in
      let l = and_true _ _ h.1 in
      record {
        alphabet = ltb-true 0 e.n a.0;
        based = ltb-true 0 e.points b.0;
        canonical = table_none_canonical e.n e.points e.table (ltb-true 0 e.n a.0) (nothing_none _ c.0);
        accepted_words =
            λ k l. is_accepted_sound (cells e) (get_or (listed e) k []) (all_at (is_accepted (cells e)) (listed e) d.0 k l);
        members = spans_member (listed e) e.generated (basis_in e) g.0;
        asked = none_refused_sound e.n e.queries h.0;
        merging = leb-true _ _ l.0;
        closing = leb-true _ _ l.1;
      }

  module _ (P : Passed) where
    -- the given table is the list's
    table : TableOf e.n e.points e.table (listed e)
    table =
        record {
          based = P.based;
          canonical = P.canonical;
          accepts = (
            loops_accepted (canonical_inverse P.canonical) (listed e) P.accepted_words,
            λ q a. member_least (member_subgroup (listed e)) (basis_in e) P.members q
                (basis_generates (usual_setting e.n e.points e.table P.canonical P.based) q a),
          );
        }

    -- a query's computed answer is the true one
    answered : (q : List ℕ) → Answered (listed e) (basis_in e) q (answer_of (cells e) e.points (usual e.n) q)
    answered q =
        by_test (is_accepted (cells e) q) (λ t. rw t (inside ((member_iff_reads_back table q).0 t)))
        (λ t. rw t (outside (λ m. true≢false (sym ((member_iff_reads_back table q).1 m) ∙ t))))
      where
        inside : Member (listed e) q
            → Answered (listed e) (basis_in e) q (some (expression_of (cells e) e.points (usual e.n) q))
        inside m =
            let x = expression_reduces table q m in
            (m, record { names = x.1; tidy = x.0; reduces = x.2; only = λ js a t r. express_unique table js q a t r })

        outside : (Member (listed e) q → ⊥) → Answered (listed e) (basis_in e) q none
        outside o = (o, outside_has_none table q o)

    all_answered : (qs : List String)
        → AllAnswered (listed e) (basis_in e) qs (map (λ q. answer_of (cells e) e.points (usual e.n) (word q)) qs)
    all_answered [] = refl
    all_answered (q ∷ qs) = (answered (word q), all_answered qs)

    every_folding : (h : Graph) (m k : ℕ) → CompleteFolding (start_graph (listed e)) h m k
        → (m ≡ merges_of (listed e) e.points) × (k ≡ closes_of (listed e) rank) × SameGraph h e.points (cells e)
    every_folding h m k f =
        let c = fold_counts table f in
        (omega (arith, c.0, P.merging), omega (arith, c.1, P.closing), folds_to_the_table table f)

    a_folding : (h : Graph)
        × CompleteFolding (start_graph (listed e)) h (merges_of (listed e) e.points) (closes_of (listed e) rank)
    a_folding =
        let x = folding_exists (start_graph (listed e)) in
        let c = every_folding x.0 x.1 x.2 x.3 in
        let f = subst (λ k. CompleteFolding (start_graph (listed e)) x.0 x.1 k) c.1 x.3 in
        (x.0, subst (λ m. CompleteFolding (start_graph (listed e)) x.0 m (closes_of (listed e) rank)) c.0 f)

    shown : text_refusal e.n true e.text ≡ none → Shown e (figures_of e)
    unfolding figures_of
    shown r =
        record {
          fine = refusal_none e.n true e.text r;
          asked = P.asked;
          table = table;
          figures = refl;
          generates = basis_generates_the_subgroup table;
          answers = all_answered e.queries;
          folds = every_folding;
          folding = a_folding;
        }

  abbrev pub ready_for : Option Refusal → Bool
  ready_for none = tests
  ready_for (some r) = true

  unfoldable pub ready : Bool
  ready = ready_for (text_refusal e.n true e.text)

  -- what is computed of a list is claimed of it
  claimed : (r : Option Refusal) → text_refusal e.n true e.text ≡ r → ready_for r ≡ true
      → Claimed e (outcome_for e r)
  claimed none t p = shown (passed p) t
  claimed (some r) t p = refusal_first e.n true e.text r t

  documented : outcome e ≡ e.expected → ready ≡ true → AsDocumented e
  unfolding outcome ready
  documented x p = subst (Claimed e) x (claimed (text_refusal e.n true e.text) refl p)

pub all_documented : (es : List Case) → map outcome es ≡ map (λ e. e.expected) es → all ready es ≡ true
    → Every AsDocumented es
unfolding all
all_documented [] x p = tt
all_documented (e ∷ es) x p =
    let a = and_true (ready e) (all ready es) p in
    (documented e (cc x) a.0, all_documented es (cc x) a.1)
