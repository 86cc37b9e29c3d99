-- Laws of reading (`specs/Tables`): words in graphs, and what a graph accepts.
--   Inverse E    <-> E is an inverse deterministic graph: a letter leads to one point, and its inverse leads back
--   Subgroup H   <-> H holds the empty word and is closed under joining, inverting and equal reduction
--   reads_reduced : where a word leads, its reduction leads too
--   reads_back    : the inverse word leads back
--   labels_sound  : with a label in H for each edge, what reads from 0 to 0 is in H
--   loops_accepted: where each listed word's reduction is a loop at 0, so is each member's
-- Graphs are relations of point, letter, point: tables, start graphs and folded edge lists alike. Assumes nothing.
use mathlib.Core.Path.{◌≡◌, refl, sym, ◌∙◌, ap, subst}
use mathlib.Core.Bool.{true, cond, true≢false}
use mathlib.Core.Option.{Option, none, some, some-injective}
use mathlib.Core.List.{List, [], ◌∷◌, ◌++◌, append_assoc, append-nil}
use Prim.Native.Nat.{ℕ, zero, suc, ◌<◌}
use native.Mathlib.Omega.{arith}
use lib.Dec.{eqb}
use lib.IntN.{ℤ, pos, negsuc}
use lib.ListN.{length, get_or}
use borrow.Author.Tests.{ne_eqb, eqb-true, eqb-false}
use Rattle.theory.specs.Words.{
  inv,
  put,
  reduced_by,
  undoes,
  reduced,
  ◌≈◌,
  inverse_by,
  inverse_of,
  named,
  product,
  Names,
  AllNames,
  Member,
}
use Rattle.theory.specs.Tables.{absent, Cells, Leads, Reads, end_of, Accepts, is_at, is_accepted}
pub use Rattle.theory.specs.Tables.{Steps}
use Rattle.theory.specs.Canonical.{Canonical}
use Rattle.theory.proofs.WordLaws.{by_test, letters, reduced_nil, reduced_idem, reduced_append, append_cong, inverse_cong, met_between, inverse_left, inverse_right, member_empty, member_append, member_inverse, member_cong}

pub record Inverse (E : Steps) : Type 0 where
  pub one : (v y x z : ℕ) → E v y x → E v y z → x ≡ z
  pub back : (v y x : ℕ) → E v y x → E x (inv y) v

-- ── Reading ──

pub reads_append : (E : Steps) (v : ℕ) (u : List ℕ) (x : ℕ) (w : List ℕ) (z : ℕ) → Reads E v u x → Reads E x w z → Reads E v (u ++ w) z
reads_append E v [] x w z r s = subst (λ p. Reads E p w z) (sym r) s
reads_append E v (y ∷ u) x w z r s = (r.0, r.1, reads_append E r.0 u x w z r.2 s)

pub reads_split : (E : Steps) (v : ℕ) (u w : List ℕ) (z : ℕ) → Reads E v (u ++ w) z → (x : ℕ) × Reads E v u x × Reads E x w z
reads_split E v [] w z r = (v, refl, r)
reads_split E v (y ∷ u) w z r =
    let s = reads_split E r.0 u w z r.2 in (s.0, (r.0, r.1, s.1), s.2)

module _ {E : Steps} (I : Inverse E) where
  -- a word leads to one point
  pub reads_one : (v : ℕ) (w : List ℕ) (x z : ℕ) → Reads E v w x → Reads E v w z → x ≡ z
  reads_one v [] x z r s = sym r ∙ s
  reads_one v (y ∷ w) x z r s =
      reads_one s.0 w x z (subst (λ p. Reads E p w x) (I.one v y r.0 s.0 r.1 s.1) r.2) s.2

  -- the inverse word leads back
  pub reads_back : (v : ℕ) (w : List ℕ) (x : ℕ) → Reads E v w x → Reads E x (inverse_of w) v
  unfolding inverse_by
  reads_back v [] x r = sym r
  reads_back v (y ∷ w) x r =
      reads_append E x (inverse_of w) r.0 (inv y ∷ []) v (reads_back r.0 w x r.2)
      (v, I.back v y r.0 r.1, refl)

  -- a letter and its inverse in front lead nowhere
  reads_put : (v y : ℕ) (w : List ℕ) (x : ℕ) → Reads E v (y ∷ w) x → Reads E v (put undoes y w) x
  unfolding put
  reads_put v y [] x r = r
  reads_put v y (z ∷ w) x r = by_test (undoes y z) (λ e. rw e (skip (eqb-true z (inv y) e) r.2)) (λ e. rw e r)
    where
      skip : z ≡ inv y → Reads E r.0 (z ∷ w) x → Reads E v w x
      skip e s =
          subst (λ p. Reads E p w x)
          (I.one r.0 (inv y) s.0 v (subst (λ l. E r.0 l s.0) e s.1) (I.back v y r.0 r.1)) s.2

  -- where a word leads, its reduction leads too
  pub reads_reduced : (v : ℕ) (w : List ℕ) (x : ℕ) → Reads E v w x → Reads E v (reduced w) x
  unfolding reduced_by
  reads_reduced v [] x r = r
  reads_reduced v (y ∷ w) x r = reads_put v y (reduced w) x (r.0, r.1, reads_reduced r.0 w x r.2)

  -- two words end at one point exactly if the first followed by the inverse of the second is a loop, after reduction
  pub ends_loop : (b : ℕ) (u v : List ℕ) (x z : ℕ) → Reads E b u x → Reads E b v z → x ≡ z → Reads E b (reduced (u ++ inverse_of v)) b
  ends_loop b u v x z r s e =
      reads_reduced b (u ++ inverse_of v) b
      (reads_append E b u x (inverse_of v) b r (subst (λ p. Reads E p (inverse_of v) b) (sym e) (reads_back b v z s)))

  -- where such a loop is read, the first word, reduced, leads where the second does
  pub loop_reads : (b : ℕ) (u v : List ℕ) (z : ℕ) → Reads E b v z → Reads E b (reduced (u ++ inverse_of v)) b → Reads E b (reduced u) z
  loop_reads b u v z s l =
      subst (λ w. Reads E b w z) cancelled
      (reads_reduced b (reduced (u ++ inverse_of v) ++ v) z (reads_append E b (reduced (u ++ inverse_of v)) b v z l s))
    where
      cancelled : reduced (u ++ inverse_of v) ++ v ≈ u
      cancelled =
          append_cong letters (reduced (u ++ inverse_of v)) (u ++ inverse_of v) v v (reduced_idem letters (u ++ inverse_of v)) refl
          ∙ ap reduced (append_assoc u (inverse_of v) v)
          ∙ append_cong letters u u (inverse_of v ++ v) [] refl (inverse_left letters v ∙ sym (reduced_nil letters))
          ∙ ap reduced (append-nil u)

  pub loop_ends : (b : ℕ) (u v : List ℕ) (x z : ℕ) → Reads E b u x → Reads E b v z → Reads E b (reduced (u ++ inverse_of v)) b → x ≡ z
  loop_ends b u v x z r s l = reads_one b (reduced u) x z (reads_reduced b u x r) (loop_reads b u v z s l)

-- a canonical table is an inverse deterministic graph
pub canonical_inverse : {N : ℕ} {ys : List ℕ} {c : Cells} → Canonical N ys c → Inverse (Leads c)
canonical_inverse k =
    record { one = λ v y x z a b. sym a.0 ∙ b.0; back = λ v y x a. k.inverse v y x a }

-- ── The computed reading ──

pub end_of_reads : (c : Cells) (v : ℕ) (w : List ℕ) (x : ℕ) → end_of c v w ≡ some x → Reads (Leads c) v w x
unfolding end_of
end_of_reads c v [] x e = some-injective v x e
end_of_reads c v (y ∷ w) x e =
    by_test (eqb (c v y) absent) (λ t. absurd (none_some (sym (rw t at step))))
    (λ t. (c v y, (refl, eqb-false (c v y) absent t), end_of_reads c (c v y) w x (rw t at step)))
  where
    step : cond (eqb (c v y) absent) none (end_of c (c v y) w) ≡ some x
    step = e

    none_some : some x ≡ none → ⊥
    none_some q = let z : ◌≡◌ {A = ℕ} 0 1 = cc in omega arith

pub reads_end_of : (c : Cells) (v : ℕ) (w : List ℕ) (x : ℕ) → Reads (Leads c) v w x → end_of c v w ≡ some x
unfolding end_of
reads_end_of c v [] x r = ap some r
reads_end_of c v (y ∷ w) x r =
    rw (r.1.0, ne_eqb r.0 absent r.1.1) (reads_end_of c r.0 w x r.2)

pub is_accepted_sound : (c : Cells) (q : List ℕ) → is_accepted c q ≡ true → Accepts c q
unfolding is_accepted
is_accepted_sound c q e = go (end_of c 0 (reduced q)) refl e
  where
    go : (o : Option ℕ) → end_of c 0 (reduced q) ≡ o → is_at 0 o ≡ true → Accepts c q
    go none p t = absurd (true≢false (sym t))
    go (some x) p t = end_of_reads c 0 (reduced q) 0 (p ∙ ap some (eqb-true x 0 t))

pub is_accepted_complete : (c : Cells) (q : List ℕ) → Accepts c q → is_accepted c q ≡ true
unfolding is_accepted
is_accepted_complete c q r = ap (is_at 0) (reads_end_of c 0 (reduced q) 0 r)

-- ── Members and acceptance ──

pub record Subgroup (H : List ℕ → Type 0) : Type 0 where
  pub empty : H []
  pub append : (u v : List ℕ) → H u → H v → H (u ++ v)
  pub inverse : (u : List ℕ) → H u → H (inverse_of u)
  pub cong : (u v : List ℕ) → u ≈ v → H u → H v

pub member_subgroup : (ws : List (List ℕ)) → Subgroup (Member ws)
member_subgroup ws =
    record {
      empty = member_empty ws;
      append = member_append ws;
      inverse = member_inverse ws;
      cong = member_cong ws;
    }

-- soundness by labels: a word for each point, with label, letter, inverse label in H for each edge
module _ {E : Steps} {H : List ℕ → Type 0} (S : Subgroup H) (label : ℕ → List ℕ)
    (edge : (v y u : ℕ) → E v y u → H (label v ++ (y ∷ inverse_of (label u)))) where
  pub labels_reads : (v : ℕ) (w : List ℕ) (x : ℕ) → Reads E v w x → H (label v ++ (w ++ inverse_of (label x)))
  unfolding reduced_by
  labels_reads v [] x r =
      subst (λ p. H (label v ++ inverse_of (label p))) r
      (S.cong [] (label v ++ inverse_of (label v)) (sym (inverse_right letters (label v))) S.empty)
  labels_reads v (y ∷ w) x r =
      S.cong _ _ (met_between (label v) y (label r.0) (w ++ inverse_of (label x))) (S.append _ _ (edge v y r.0 r.1) (labels_reads r.0 w x r.2))

  -- with an empty label at 0, what reads from 0 to 0 is in H
  pub labels_sound : label 0 ≡ [] → (w : List ℕ) → Reads E 0 w 0 → H w
  unfolding inverse_by
  labels_sound e w r = subst H (append-nil w) (subst (λ l. H (l ++ (w ++ inverse_of l))) e (labels_reads 0 w 0 r))

-- completeness by loops: where the reduction of each listed word is a loop at 0, so is that of each member
module _ {E : Steps} (I : Inverse E) (ws : List (List ℕ))
    (loop : (k : ℕ) → k < length ws → Reads E 0 (reduced (get_or ws k [])) 0) where
  -- a loop, and its inverse
  named_loop : (k : ℤ) → Names (length ws) k → Reads E 0 (reduced (named ws k)) 0
  unfolding named
  named_loop (pos zero) h = absurd h
  named_loop (pos (suc k)) h = loop k h
  named_loop (negsuc k) h =
      subst (λ w. Reads E 0 w 0) (inverse_cong letters (reduced (get_or ws k [])) (get_or ws k []) (reduced_idem letters (get_or ws k [])))
      (reads_reduced I 0 (inverse_of (reduced (get_or ws k []))) 0 (reads_back I 0 (reduced (get_or ws k [])) 0 (loop k h)))

  product_loop : (ks : List ℤ) → AllNames (length ws) ks → Reads E 0 (reduced (product ws ks)) 0
  unfolding product reduced_by
  product_loop [] h = refl
  product_loop (k ∷ ks) h =
      subst (λ w. Reads E 0 w 0) (sym (reduced_append letters (named ws k) (product ws ks)))
      (reads_reduced I 0 (reduced (named ws k) ++ reduced (product ws ks)) 0
      (reads_append E 0 (reduced (named ws k)) 0 (reduced (product ws ks)) 0 (named_loop k h.0) (product_loop ks h.1)))

  pub loops_accepted : (q : List ℕ) → Member ws q → Reads E 0 (reduced q) 0
  loops_accepted q m = subst (λ w. Reads E 0 w 0) m.reduces (product_loop m.numbers m.listed)
