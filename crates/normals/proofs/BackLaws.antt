-- Points that every basis word leads back to (theory, `leads_back`), on plain tables.
--   Image c N ys p x a <-> the path of x leads from p to a
--   image_step : where every basis word leads from p back to p, a letter that leads from v to x leads from the image of v to that of x
--   image_there : and each point has its image
--   maps_back : where some map of points keeps every letter and takes the base to p, every basis word leads from p back to p
-- So `leads_back` needs no words: it is a map of the table's points that keeps its letters. Assumes nothing.
use mathlib.Core.Path.{◌≡◌, refl, sym, ◌∙◌, ap, subst}
use mathlib.Core.Logic.{inl, inr, ⊎_elim}
use mathlib.Core.Bool.{Bool, true, true≢false}
use mathlib.Core.Option.{Option, none, some}
use mathlib.Core.List.{List, [], ◌∷◌, ◌++◌}
use Prim.Native.Nat.{ℕ, zero, suc, ◌<◌}
use native.Mathlib.Omega.{arith}
use lib.IntN.{ℤ, pos, negsuc}
use lib.ListN.{length, get_or}
use borrow.Author.Tests.{eq-eqb, eqb-true}
use Rattle.theory.specs.Words.{inv, inverse_of, named, product, Names, AllNames}
use Rattle.theory.specs.Tables.{Cells, Leads, Reads, end_of, is_at}
use Rattle.theory.specs.Basis.{path_of, basis_of, expression_of, all, leads_back}
use Rattle.theory.proofs.WordLaws.{letters, reduced_fixed, inverse_inverse}
use Rattle.theory.proofs.RefusalLaws.{and_true}
use Rattle.theory.proofs.ReadLaws.{reads_append, reads_split, reads_one, reads_back, reads_reduced, end_of_reads, reads_end_of}
use Rattle.theory.proofs.OneTable.{onward_table}
use Rattle.theory.proofs.PathLaws.{Setting, spot, inverses, leads_in, path_step, path_reads, path_reduced}
use Rattle.theory.proofs.EdgeLaws.{PathEdge}
use Rattle.theory.proofs.BasisLaws.{loop_by, Crossed, loop_reads, edge_crossed, crossed_named, crossed_names, names_crossed}
use Rattle.theory.proofs.ExpressionLaws.{expression_tidy, expression_product}

-- ── All elements pass ──

pub all_at : {A : Type 0} (f : A → Bool) (l : List A) (i : ℕ) (d : A) → all f l ≡ true → i < length l → f (get_or l i d) ≡ true
unfolding all
all_at f [] i d e h = absurd (omega arith)
all_at f (a ∷ l) zero d e h = (and_true (f a) (all f l) e).0
all_at f (a ∷ l) (suc i) d e h = all_at f l i d (and_true (f a) (all f l) e).1 (omega arith)

pub all_each : {A : Type 0} (f : A → Bool) (l : List A) (d : A) → ((i : ℕ) → i < length l → f (get_or l i d) ≡ true) → all f l ≡ true
unfolding all
all_each f [] d h = refl
all_each f (a ∷ l) d h = rw (h 0 (omega arith)) (all_each f l d (λ i b. h (suc i) (omega arith)))

-- the test for a word that leads from p back to p
is_at_reads : (c : Cells) (p : ℕ) (w : List ℕ) → is_at p (end_of c p w) ≡ true → Reads (Leads c) p w p
is_at_reads c p w e = go (end_of c p w) refl e
  where
    go : (o : Option ℕ) → end_of c p w ≡ o → is_at p o ≡ true → Reads (Leads c) p w p
    go none q t = absurd (true≢false (sym t))
    go (some x) q t = end_of_reads c p w p (q ∙ ap some (eqb-true x p t))

reads_is_at : (c : Cells) (p : ℕ) (w : List ℕ) → Reads (Leads c) p w p → is_at p (end_of c p w) ≡ true
reads_is_at c p w r = ap (is_at p) (reads_end_of c p w p r) ∙ eq-eqb p p refl

-- the path of x leads from p to a
abbrev pub Image : Cells → ℕ → List ℕ → ℕ → ℕ → ℕ → Type 0
Image c N ys p x a = Reads (Leads c) p (path_of c N ys x) a

module _ {c : Cells} {N : ℕ} {ys : List ℕ} (S : Setting c N ys) where
  -- short names for the table in hand
  abbrev path : ℕ → List ℕ
  path = path_of c N ys

  abbrev basis : List (List ℕ)
  basis = basis_of c N ys

  -- a word one letter longer: the letter leads on from where the shorter word leads
  last_letter : (p : ℕ) (u w : List ℕ) (y a b : ℕ) → w ≡ u ++ (y ∷ []) → Reads (Leads c) p u a → Reads (Leads c) p w b → Leads c a y b
  last_letter p u w y a b e r s =
      let q = reads_split (Leads c) p u (y ∷ []) b (subst (λ l. Reads (Leads c) p l b) e s) in
      subst (λ z. Leads c z y b) (reads_one (inverses S) p u q.0 a q.1 r) (subst (Leads c q.0 y) q.2.2 q.2.1)

  -- ── From words to letters ──

  module _ (p : ℕ) (back : leads_back c N ys p ≡ true) where
    -- each basis word and each inverse of one leads from p back to p
    named_back : (k : ℤ) → Names (length (basis_of c N ys)) k → Reads (Leads c) p (named (basis_of c N ys) k) p
    unfolding named leads_back
    named_back (pos zero) h = absurd h
    named_back (pos (suc k)) h = is_at_reads c p (get_or basis k []) (all_at (λ w. is_at p (end_of c p w)) basis k [] back h)
    named_back (negsuc k) h =
        reads_back (inverses S) p (get_or basis k []) p
        (is_at_reads c p (get_or basis k []) (all_at (λ w. is_at p (end_of c p w)) basis k [] back h))

    -- so do their products
    product_back : (ks : List ℤ) → AllNames (length (basis_of c N ys)) ks → Reads (Leads c) p (product (basis_of c N ys) ks) p
    unfolding product
    product_back [] h = refl
    product_back (k ∷ ks) h =
        reads_append (Leads c) p (named basis k) p (product basis ks) p (named_back k h.0) (product_back ks h.1)

    -- a path begins an accepted word, which leads from p back to p
    pub image_there : (x : ℕ) → x < N → (a : ℕ) × Image c N ys p x a
    image_there x h =
        let o = onward_table S.canonical S.based (path x) x (path_reduced S x h) (path_reads S x h) in
        let w = path x ++ o.0 in
        let r = reads_reduced (inverses S) p (product basis (expression_of c N ys w)) p
        (product_back (expression_of c N ys w) (expression_tidy S w o.2).1) in
        let q = subst (λ l. Reads (Leads c) p l p) (expression_product S w o.2 ∙ reduced_fixed letters w o.1) r in
        let s = reads_split (Leads c) p (path x) o.0 p q in
        (s.0, s.1)

    -- the loop of a crossed edge is a basis word or the inverse of one, and is read letter by letter
    crossed_step : (v y x a b : ℕ) (k : ℤ) → Leads c v y x → Crossed c N ys v y x k → Image c N ys p v a → Image c N ys p x b → Leads c a y b
    crossed_step v y x a b k l o r s =
        let q = reads_split (Leads c) p (path v) (y ∷ inverse_of (path x)) p
        (subst (λ w. Reads (Leads c) p w p) (crossed_named S v y x k l o) (named_back k (crossed_names S v y x k o))) in
        let h = subst (λ w. Reads (Leads c) p w q.2.0) (inverse_inverse letters (path x))
        (reads_back (inverses S) q.2.0 (inverse_of (path x)) p q.2.2) in
        subst (λ z. Leads c z y b) (reads_one (inverses S) p (path v) q.0 a q.1 r)
        (subst (Leads c q.0 y) (reads_one (inverses S) p (path x) q.2.0 b h s) q.2.1)

    -- a letter of a path leads on along it, or back
    path_edge_step : (v y x a b : ℕ) → Leads c v y x → PathEdge c N ys v y x → Image c N ys p v a → Image c N ys p x b → Leads c a y b
    path_edge_step v y x a b l (inl e) r s =
        last_letter p (path v) (path x) y a b (path_step S (spot v y) x e (leads_in S v y x l).1) r s
    path_edge_step v y x a b l (inr e) r s =
        subst (λ z. Leads c a z b) (letters.twice y)
        ((inverses S).back b (inv y) a
        (last_letter p (path x) (path v) (inv y) b a (path_step S (spot x (inv y)) v e (leads_in S v y x l).0) s r))

    pub image_step : (v y x a b : ℕ) → Leads c v y x → Image c N ys p v a → Image c N ys p x b → Leads c a y b
    image_step v y x a b l r s =
        ⊎_elim (λ e. path_edge_step v y x a b l e r s) (λ o. crossed_step v y x a b o.0 l o.1 r s) (edge_crossed S v y x l)

  -- ── From letters to words ──

  module _ (f : ℕ → ℕ) (keeps : (v y x : ℕ) → Leads c v y x → Leads c (f v) y (f x)) where
    maps_reads : (v : ℕ) (w : List ℕ) (x : ℕ) → Reads (Leads c) v w x → Reads (Leads c) (f v) w (f x)
    maps_reads v [] x r = ap f r
    maps_reads v (y ∷ w) x r = (f r.0, keeps v y r.0 r.1, maps_reads r.0 w x r.2)

    -- each basis word leads from the base back to the base
    pub maps_back : leads_back c N ys (f 0) ≡ true
    unfolding leads_back named
    maps_back =
        all_each (λ w. is_at (f 0) (end_of c (f 0) w)) basis []
        (λ k h. let q = names_crossed S (pos (suc k)) h in
        reads_is_at c (f 0) (get_or basis k [])
        (subst (λ w. Reads (Leads c) (f 0) w (f 0)) (sym (crossed_named S q.0 q.1 q.2 (pos (suc k)) q.3 q.4))
        (maps_reads 0 (loop_by c N ys q.0 q.1 q.2) 0 (loop_reads S q.0 q.1 q.2 q.3))))
