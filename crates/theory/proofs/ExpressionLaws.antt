-- Laws of crossings and expressions (`specs/Basis`; 004, theorem 3.11): the basis words are a free basis of the accepted words.
--   telescope         : what is noted along a word names a product: the word between the paths of its ends
--   crossings_reduced : a word and its reduction are noted alike, after reduction of the notes
--   crossings_tidy    : along a reduced word no edge is crossed and at once crossed back
--   basis_generates, basis_accepts : the accepted words are the members of the basis
--   expression_tidy, expression_product, expression_unique : the expression is the one tidy product of basis words that
--                       reduces to the member
-- Assumes nothing.
use mathlib.Core.Path.{◌≡◌, refl, sym, ◌∙◌, ap, subst}
use mathlib.Core.Logic.{inl, inr, ⊎_elim}
use mathlib.Core.Bool.{false}
use mathlib.Core.List.{List, [], ◌∷◌, ◌++◌, append_assoc, append-nil}
use Prim.Native.Nat.{ℕ, ◌<◌}
use native.Mathlib.Omega.{arith}
use lib.IntN.{ℤ, neg_ℤ}
use lib.ListN.{length, get_or}
use borrow.Author.Tests.{eq-eqb, eqb-true}
use Rattle.theory.specs.Words.{
  inv,
  put,
  reduced_by,
  undoes,
  reduced,
  Reduced,
  ◌≈◌,
  inverse_by,
  inverse_of,
  named,
  product,
  Names,
  AllNames,
  Member,
  opposite,
  Tidy,
}
use Rattle.theory.specs.Tables.{Cells, Leads, Reads, Accepts}
use Rattle.theory.specs.Basis.{path_of, basis_of, crossing, crossings, expression_of}
use Rattle.theory.proofs.WordLaws.{
  by_test,
  letters,
  signs,
  reduced_nil,
  reduced_none,
  reduced_fixed,
  reduced_idem,
  append_cong,
  gone_between,
  inverse_append,
  inverse_right,
  inverse_left,
  inverse_cong,
  product_append,
  member_listed,
  met_between,
}
use Rattle.theory.proofs.ReadLaws.{reads_append, reads_back, reads_reduced}
use Rattle.theory.proofs.PlaceLaws.{passes_fails, fails}
use Rattle.theory.proofs.PathLaws.{
  none_parts,
  Setting,
  spot,
  Step,
  inverses,
  leads_in,
  step_leads,
  path_base,
  path_step,
  path_induct,
  path_reads,
}
use Rattle.theory.proofs.EdgeLaws.{PathEdge}
use Rattle.theory.proofs.BasisLaws.{
  loop_by,
  Crossed,
  loop_reads,
  loop_back,
  crossed_back,
  edge_crossed,
  path_crossing,
  crossed_crossing,
  crossing_back,
  crossed_one,
  crossed_named,
  crossed_names,
  names_crossed,
}

-- what conjugates to nothing is nothing
conjugate_gone : (a b : List ℕ) → a ++ (b ++ inverse_of a) ≈ [] → b ≈ []
unfolding reduced_by
conjugate_gone a b e =
    ap reduced (sym (append-nil b))
    ∙ sym (gone_between letters b (inverse_of a ++ a) [] (inverse_left letters a))
    ∙ sym (gone_between letters [] (inverse_of a ++ a) (b ++ ((inverse_of a ++ a) ++ [])) (inverse_left letters a))
    ∙ ap reduced (grouped (inverse_of a))
    ∙ gone_between letters (inverse_of a) (a ++ (b ++ inverse_of a)) a e
    ∙ inverse_left letters a
  where
    grouped : (i : List ℕ) → (i ++ a) ++ (b ++ ((i ++ a) ++ [])) ≡ i ++ ((a ++ (b ++ i)) ++ a)
    grouped i = simp (append_assoc, append-nil)

-- a number in front of a tidy list, not beside its inverse
tidy_cons : (k : ℤ) (ks : List ℤ) → Tidy ks → ((j : ℤ) (js : List ℤ) → ks ≡ j ∷ js → opposite k j ≡ false) → Tidy (k ∷ ks)
tidy_cons k [] h f = tt
tidy_cons k (j ∷ ks) h f = (f j ks refl, h)

-- the empty word's expression is empty
pub expression_empty : (c : Cells) (N : ℕ) (ys : List ℕ) → expression_of c N ys [] ≡ []
unfolding expression_of crossings reduced_by
expression_empty c N ys = refl

module _ {c : Cells} {N : ℕ} {ys : List ℕ} (S : Setting c N ys) where
  -- short names for the table in hand
  abbrev path : ℕ → List ℕ
  path = path_of c N ys

  abbrev loop : ℕ → ℕ → ℕ → List ℕ
  loop = loop_by c N ys

  abbrev basis : List (List ℕ)
  basis = basis_of c N ys

  abbrev notes : ℕ → List ℕ → List ℤ
  notes = crossings c N ys

  abbrev note : ℕ → ℕ → List ℤ
  note = crossing c N ys

  -- ── What is noted along a word ──

  -- a word that reads goes on from where its first letter leads
  next : (v y : ℕ) (w : List ℕ) (x : ℕ) → Reads (Leads c) v (y ∷ w) x → Leads c v y (c v y) × Reads (Leads c) (c v y) w x
  next v y w x r =
      subst (λ u. Leads c v y u × Reads (Leads c) u w x) (sym r.1.0) (r.1, r.2)

  -- what is noted along joined words
  pub crossings_append : (v : ℕ) (u : List ℕ) (x : ℕ) (w : List ℕ) → Reads (Leads c) v u x → crossings c N ys v (u ++ w) ≡ crossings c N ys v u ++ crossings c N ys x w
  unfolding crossings
  crossings_append v [] x w r = ap (λ p. notes p w) r
  crossings_append v (y ∷ u) x w r =
      ap (λ l. note v y ++ l) (crossings_append (c v y) u x w (next v y u x r).1)
      ∙ sym (append_assoc (note v y) (notes (c v y) u) (notes x w))

  -- nothing is noted along a path
  pub crossings_path : (x : ℕ) → x < N → crossings c N ys 0 (path_of c N ys x) ≡ []
  unfolding crossings
  crossings_path =
      path_induct S (λ x w. notes 0 w ≡ []) refl
      (λ s x p hx e. let b = step_leads S s x p hx in
      crossings_append 0 (path s.point) s.point (s.letter ∷ []) (path_reads S s.point (omega arith))
      ∙ rw (e, path_crossing S s.point s.letter x b.1 (inl p)))

  -- along the inverse word the inverse is noted
  pub crossings_inverse : (v : ℕ) (w : List ℕ) (x : ℕ) → Reads (Leads c) v w x → crossings c N ys x (inverse_of w) ≡ inverse_by neg_ℤ (crossings c N ys v w)
  unfolding crossings inverse_by
  crossings_inverse v [] x r = refl
  crossings_inverse v (y ∷ w) x r =
      let n = next v y w x r in
      crossings_append x (inverse_of w) (c v y) (inv y ∷ []) (reads_back (inverses S) (c v y) w x n.1)
      ∙ rw (crossings_inverse (c v y) w x n.1, crossing_back S v y (c v y) n.0, append-nil)
      (sym (inverse_append signs (note v y) (notes (c v y) w)))

  -- a loop's notes are those of its edge
  pub crossings_loop : (v y x : ℕ) → Leads c v y x → crossings c N ys 0 (loop_by c N ys v y x) ≡ crossing c N ys v y
  unfolding crossings inverse_by
  crossings_loop v y x l =
      let b = leads_in S v y x l in
      crossings_append 0 (path v) v (y ∷ inverse_of (path x)) (path_reads S v b.0)
      ∙ rw (crossings_path v b.0, l.0, crossings_inverse 0 (path x) x (path_reads S x b.1), crossings_path x b.1)
      (append-nil (note v y))

  -- ── Reduction ──

  -- a letter put in front: where it cancels, what is noted for the two cancels
  crossings_put : (v y : ℕ) (w : List ℕ) (x : ℕ) → Reads (Leads c) v (y ∷ w) x → reduced_by opposite (notes v (put undoes y w)) ≡ reduced_by opposite (notes v (y ∷ w))
  unfolding put crossings
  crossings_put v y [] x r = refl
  crossings_put v y (z ∷ w) x r = by_test (undoes y z) (λ e. rw e (skip (eqb-true z (inv y) e))) (λ e. rw e)
    where
      skip : z ≡ inv y → reduced_by opposite (notes v w) ≡ reduced_by opposite (notes v (y ∷ z ∷ w))
      skip e =
          let l = (next v y (z ∷ w) x r).0 in
          rw (e, crossing_back S v y (c v y) l, ((inverses S).back v y (c v y) l).0)
          (sym (ap (reduced_by opposite) (sym (append_assoc (note v y) (inverse_by neg_ℤ (note v y)) (notes v w)))
          ∙ gone_between signs [] (note v y ++ inverse_by neg_ℤ (note v y)) (notes v w) (inverse_right signs (note v y))))

  -- a word and its reduction are noted alike, after reduction of the notes
  pub crossings_reduced : (v : ℕ) (w : List ℕ) (x : ℕ) → Reads (Leads c) v w x → reduced_by opposite (crossings c N ys v (reduced w)) ≡ reduced_by opposite (crossings c N ys v w)
  unfolding reduced_by crossings
  crossings_reduced v [] x r = refl
  crossings_reduced v (y ∷ w) x r =
      let n = next v y w x r in
      crossings_put v y (reduced w) x (c v y, n.0, reads_reduced (inverses S) (c v y) w x n.1)
      ∙ append_cong signs (note v y) (note v y) (notes (c v y) (reduced w)) (notes (c v y) w) refl
      (crossings_reduced (c v y) w x n.1)

  -- ── Products ──

  -- the loop of a path's edge reduces to nothing
  step_loop : (v y x : ℕ) → x < N → Step c N ys (spot v y) x → loop v y x ≈ []
  unfolding reduced_by
  step_loop v y x hx p =
      ap reduced (sym (append_assoc (path v) (y ∷ []) (inverse_of (path x))))
      ∙ ap (λ w. reduced (w ++ inverse_of (path x))) (sym (path_step S (spot v y) x p hx))
      ∙ inverse_right letters (path x)

  path_loop : (v y x : ℕ) → Leads c v y x → PathEdge c N ys v y x → loop v y x ≈ []
  unfolding inverse_by
  path_loop v y x l (inl p) = step_loop v y x (leads_in S v y x l).1 p
  path_loop v y x l (inr p) =
      ap reduced (sym (loop_back S v y x))
      ∙ inverse_cong letters (loop x (inv y) v) [] (step_loop x (inv y) v (leads_in S v y x l).0 p)

  -- what is noted for a letter names a product: the loop of the edge
  pub crossing_product : (v y x : ℕ) → Leads c v y x → product (basis_of c N ys) (crossing c N ys v y) ≈ loop_by c N ys v y x
  unfolding product
  crossing_product v y x l =
      ⊎_elim (λ p. ap (λ ks. reduced (product basis ks)) (path_crossing S v y x l p) ∙ sym (path_loop v y x l p))
      (λ o. ap (λ ks. reduced (product basis ks)) (crossed_crossing S v y x o.0 l o.1)
      ∙ ap reduced (append-nil (named basis o.0) ∙ crossed_named S v y x o.0 l o.1))
      (edge_crossed S v y x l)

  -- what is noted along a word names a product: the word between the paths of its ends
  pub telescope : (v : ℕ) (w : List ℕ) (x : ℕ) → Reads (Leads c) v w x → product (basis_of c N ys) (crossings c N ys v w) ≈ path_of c N ys v ++ (w ++ inverse_of (path_of c N ys x))
  unfolding crossings product
  telescope v [] x r =
      reduced_nil letters
      ∙ sym (inverse_right letters (path v))
      ∙ ap (λ p. reduced (path v ++ inverse_of (path p))) r
  telescope v (y ∷ w) x r =
      let n = next v y w x r in
      ap reduced (product_append basis (note v y) (notes (c v y) w))
      ∙ append_cong letters (product basis (note v y)) (loop v y (c v y)) (product basis (notes (c v y) w))
      (path (c v y) ++ (w ++ inverse_of (path x))) (crossing_product v y (c v y) n.0) (telescope (c v y) w x n.1)
      ∙ met_between (path v) y (path (c v y)) (w ++ inverse_of (path x))

  -- ── Reduced words ──

  -- a reduced loop along which nothing is noted is empty
  pub silent_loop : (v : ℕ) (w : List ℕ) → Reduced w → Reads (Leads c) v w v → crossings c N ys v w ≡ [] → w ≡ []
  unfolding product reduced_by
  silent_loop v w h r e =
      sym (reduced_fixed letters w h)
      ∙ conjugate_gone (path v) w (sym (telescope v w v r) ∙ ap (λ ks. reduced (product basis ks)) e)

  -- after a letter y that crosses k, and a word t of edges of paths, what is noted next is not the inverse of k
  module _ (v y u : ℕ) (k : ℤ) (l : Leads c v y u) (o : Crossed c N ys v y u k) where
    beside : (w t : List ℕ) (a x : ℕ) → Reads (Leads c) u t a → notes u t ≡ [] → Reads (Leads c) a w x → Reduced (y ∷ (t ++ w)) → (j : ℤ) (js : List ℤ) → notes a w ≡ j ∷ js → opposite k j ≡ false
    unfolding crossings
    beside [] t a x q s r h j js e = absurd (let z : ◌≡◌ {A = ℕ} 0 1 = cc in omega arith)
    beside (z ∷ w) t a x q s r h j js e =
        ⊎_elim
        (λ p. let i = path_crossing S a z (c a z) m p in
        beside w (t ++ (z ∷ [])) (c a z) x (reads_append (Leads c) u t a (z ∷ []) (c a z) q (c a z, m, refl))
        (crossings_append u t a (z ∷ []) q ∙ rw (s, i)) (next a z w x r).1
        (subst (λ f. Reduced (y ∷ f)) (sym (append_assoc t (z ∷ []) w)) h) j js (rw i at e))
        (λ p. let i : p.0 ≡ j = heads p.0 (rw (crossed_crossing S a z (c a z) p.0 m p.1) at e) in
        fails (opposite k j) (λ b. back (subst (λ f. Crossed c N ys a z (c a z) f) i p.1) (signs.sound k j b)))
        (edge_crossed S a z (c a z) m)
      where
        m : Leads c a z (c a z)
        m = (next a z w x r).0

        heads : (i : ℤ) → i ∷ notes (c a z) w ≡ j ∷ js → i ≡ j
        heads i e = cc

        -- the edge would be crossed back from u, so t is a loop, so empty, so z stands beside y and undoes it
        back : Crossed c N ys a z (c a z) j → j ≡ neg_ℤ k → ⊥
        back p b =
            let i = subst (λ f. Crossed c N ys u (inv y) v f) (sym b) (crossed_back S v y u k o) in
            let d = crossed_one S u (inv y) v a z (c a z) j ((inverses S).back v y u l) m i p in
            let g = (none_parts letters t (z ∷ w) (none_parts letters (y ∷ []) (t ++ (z ∷ w)) h).1).0 in
            let n = silent_loop u t g (subst (λ f. Reads (Leads c) u t f) (sym d.0) q) s in
            passes_fails (eq-eqb z (inv y) (sym d.1)) (subst (λ f. Reduced (y ∷ (f ++ (z ∷ w)))) n h).0

  -- along a reduced word no edge is crossed and at once crossed back
  pub crossings_tidy : (v : ℕ) (w : List ℕ) (x : ℕ) → Reduced w → Reads (Leads c) v w x → Tidy (crossings c N ys v w)
  unfolding crossings
  crossings_tidy v [] x h r = tt
  crossings_tidy v (y ∷ w) x h r =
      let n = next v y w x r in
      let t = crossings_tidy (c v y) w x (none_parts letters (y ∷ []) w h).1 n.1 in
      ⊎_elim (λ p. rw (path_crossing S v y (c v y) n.0 p) t)
      (λ o. rw (crossed_crossing S v y (c v y) o.0 n.0 o.1)
      (tidy_cons o.0 (notes (c v y) w) t (beside v y (c v y) o.0 n.0 o.1 w [] (c v y) x refl refl n.1 h)))
      (edge_crossed S v y (c v y) n.0)

  -- what is noted are numbers of basis words
  pub crossings_names : (v : ℕ) (w : List ℕ) (x : ℕ) → Reads (Leads c) v w x → AllNames (length (basis_of c N ys)) (crossings c N ys v w)
  unfolding crossings
  crossings_names v [] x r = tt
  crossings_names v (y ∷ w) x r =
      let n = next v y w x r in
      let t = crossings_names (c v y) w x n.1 in
      ⊎_elim (λ p. rw (path_crossing S v y (c v y) n.0 p) t)
      (λ o. rw (crossed_crossing S v y (c v y) o.0 n.0 o.1) (crossed_names S v y (c v y) o.0 o.1, t))
      (edge_crossed S v y (c v y) n.0)

  -- ── Products of basis words ──

  -- a basis word or its inverse leads from the base to the base, and its own number is noted along it
  pub named_reads : (k : ℤ) → Names (length (basis_of c N ys)) k → Reads (Leads c) 0 (named (basis_of c N ys) k) 0 × (crossings c N ys 0 (named (basis_of c N ys) k) ≡ k ∷ [])
  named_reads k h =
      let p = names_crossed S k h in
      rw (crossed_named S p.0 p.1 p.2 k p.3 p.4) (
        loop_reads S p.0 p.1 p.2 p.3,
        crossings_loop p.0 p.1 p.2 p.3 ∙ crossed_crossing S p.0 p.1 p.2 k p.3 p.4,
      )

  -- along a product of basis words its numbers are noted
  pub product_reads : (ks : List ℤ) → AllNames (length (basis_of c N ys)) ks → Reads (Leads c) 0 (product (basis_of c N ys) ks) 0 × (crossings c N ys 0 (product (basis_of c N ys) ks) ≡ ks)
  unfolding product crossings
  product_reads [] h = (refl, refl)
  product_reads (k ∷ ks) h =
      let a = named_reads k h.0 in
      let b = product_reads ks h.1 in (
        reads_append (Leads c) 0 (named basis k) 0 (product basis ks) 0 a.0 b.0,
        crossings_append 0 (named basis k) 0 (product basis ks) a.0 ∙ rw (a.1, b.1),
      )

  -- ── Basis and expression ──

  -- the expression of a member has no number beside its inverse, and its numbers are those of basis words
  pub expression_tidy : (q : List ℕ) → Accepts c q → Tidy (expression_of c N ys q) × AllNames (length (basis_of c N ys)) (expression_of c N ys q)
  unfolding expression_of
  expression_tidy q r = (crossings_tidy 0 (reduced q) 0 (reduced_none letters q) r, crossings_names 0 (reduced q) 0 r)

  -- its product is the member
  pub expression_product : (q : List ℕ) → Accepts c q → product (basis_of c N ys) (expression_of c N ys q) ≈ q
  unfolding expression_of inverse_by
  expression_product q r =
      telescope 0 (reduced q) 0 r ∙ ap reduced (rw path_base (append-nil (reduced q))) ∙ reduced_idem letters q

  -- each accepted word is a member of the basis
  pub basis_generates : (q : List ℕ) → Accepts c q → Member (basis_of c N ys) q
  basis_generates q r =
      record { numbers = expression_of c N ys q; listed = (expression_tidy q r).1; reduces = expression_product q r }

  -- each member of the basis is accepted
  pub basis_accepts : (q : List ℕ) → Member (basis_of c N ys) q → Accepts c q
  basis_accepts q m =
      subst (λ w. Reads (Leads c) 0 w 0) m.reduces
      (reads_reduced (inverses S) 0 (product basis m.numbers) 0 (product_reads m.numbers m.listed).0)

  -- each basis word is accepted
  pub basis_accepted : (k : ℕ) → k < length (basis_of c N ys) → Accepts c (get_or (basis_of c N ys) k [])
  basis_accepted k h = basis_accepts (get_or basis k []) (member_listed basis k h)

  -- no other tidy product of basis words is the member
  pub expression_unique : (ks : List ℤ) (q : List ℕ) → AllNames (length (basis_of c N ys)) ks → Tidy ks → product (basis_of c N ys) ks ≈ q → ks ≡ expression_of c N ys q
  unfolding expression_of
  expression_unique ks q h t e =
      let p = product_reads ks h in
      let r = basis_accepts q (record { numbers = ks; listed = h; reduces = e }) in
      sym (reduced_fixed signs ks t)
      ∙ ap (reduced_by opposite) (sym p.1)
      ∙ sym (crossings_reduced 0 (product basis ks) 0 p.0)
      ∙ ap (λ w. reduced_by opposite (notes 0 w)) e
      ∙ reduced_fixed signs (notes 0 (reduced q)) (crossings_tidy 0 (reduced q) 0 (reduced_none letters q) r)
