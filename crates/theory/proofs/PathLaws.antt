-- Laws of paths (`specs/Basis`), for a canonical table over any letter order in which no letter stands twice.
--   Setting c N ys  <-> c is canonical, with N points, at least one, and the letters ys
--   Step c N ys s x <-> x is not the base and is first met at the spot s: the last step of its path
--   met              : each point but the base is first met at a spot of a smaller point
--   path_reads       : a path leads from the base to its point
--   path_reduced     : a path is reduced
--   path_length      : the path of x has at most x letters
-- Assumes nothing.
use mathlib.Core.Path.{◌≡◌, refl, sym, ◌∙◌, ap, subst}
use mathlib.Core.Logic.{inl, by_cases}
use mathlib.Core.Bool.{Bool, true, false}
use mathlib.Core.Option.{Option, none, some, some-injective}
use mathlib.Core.List.{List, [], ◌∷◌, ◌++◌, append_assoc}
use Prim.Native.Nat.{ℕ, zero, suc, ◌<◌, ◌≤◌}
use native.Mathlib.Decide.{ℕ_discrete, dec_lt}
use native.Mathlib.Omega.{arith}
use lib.Dec.{eqb}
use lib.ListN.{length, get_or, length-append}
use borrow.Author.Tests.{eq-eqb, ne_eqb, eqb-true}
use Rattle.theory.specs.Words.{inv, NoneCancels, Reduced, inverse_by}
use Rattle.theory.specs.Letters.{usual}
use Rattle.theory.specs.Tables.{Cells, Leads, Reads, cell}
use Rattle.theory.specs.Canonical.{Canonical, Place, first_place}
use Rattle.theory.specs.Basis.{Spot, spot_at, first_met, path_from, path_of}
use Rattle.theory.proofs.WordLaws.{Inverses, letters}
use Rattle.theory.proofs.ReadLaws.{Inverse, canonical_inverse, reads_append}
use Rattle.theory.proofs.PlaceLaws.{passes_fails, fails, first_place_some, first_place_none}
use Rattle.theory.proofs.TableLaws.{StandsIn, Bounded, Once, usual_once, cell_bounded}

-- ── Reduced words ──

module _ {A : Type 0} {inv : A → A} {cancels : A → A → Bool} (I : Inverses inv cancels) where
  -- two reduced words that share a letter, the last of one and the first of the other, make a reduced word
  pub none_overlap : (r : List A) (y : A) (s : List A) → NoneCancels cancels (r ++ (y ∷ [])) → NoneCancels cancels (y ∷ s) → NoneCancels cancels (r ++ (y ∷ s))
  none_overlap [] y s h k = k
  none_overlap (a ∷ []) y s h k = (h.0, k)
  none_overlap (a ∷ (b ∷ r)) y s h k = (h.0, none_overlap (b ∷ r) y s h.1 k)

  -- the parts of a reduced word are reduced
  pub none_parts : (r s : List A) → NoneCancels cancels (r ++ s) → NoneCancels cancels r × NoneCancels cancels s
  none_parts [] s h = (tt, h)
  none_parts (a ∷ []) [] h = (tt, tt)
  none_parts (a ∷ []) (b ∷ s) h = (tt, h.1)
  none_parts (a ∷ (b ∷ r)) s h = let p = none_parts (b ∷ r) s h.1 in ((h.0, p.0), p.1)

  -- the inverse of a reduced word is reduced
  pub none_inverse : (w : List A) → NoneCancels cancels w → NoneCancels cancels (inverse_by inv w)
  unfolding inverse_by
  none_inverse [] h = tt
  none_inverse (y ∷ []) h = tt
  none_inverse (y ∷ (x ∷ w)) h =
      subst (NoneCancels cancels) (sym (append_assoc (inverse_by inv w) (inv x ∷ []) (inv y ∷ [])))
      (none_overlap (inverse_by inv w) (inv x) (inv y ∷ []) (none_inverse (x ∷ w) h.1) (apart, tt))
    where
      -- if they cancel so do y and x
      apart : cancels (inv x) (inv y) ≡ false
      apart =
          fails (cancels (inv x) (inv y))
          (λ e. passes_fails (sym (ap (cancels y) (I.sound (inv x) (inv y) e ∙ I.twice x)) ∙ I.hit y) h.0)

-- ── Paths ──

-- where a place passes, the first that passes stands in no later row
first_row : (f : ℕ → ℕ → Bool) (N w v i : ℕ) → v < N → i < w → f v i ≡ true → (p : Place) × (first_place f N w ≡ some p) × (p.row ≤ v) × (f p.row p.index ≡ true)
first_row f N w v i hv hi t = go (first_place f N w) refl
  where
    go : (o : Option Place) → first_place f N w ≡ o → (p : Place) × (first_place f N w ≡ some p) × (p.row ≤ v) × (f p.row p.index ≡ true)
    go none e = passes_fails t (first_place_none f N w e v i hv hi)
    go (some p) e =
        let g = first_place_some f N w p e in
        by_cases (dec_lt v p.row) (λ h. passes_fails t (g.none_before v i (inl h) hi)) (λ h. (p, e, omega arith, g.passes))

-- a canonical table, with what the laws of scans need of its cells and letters
pub record Setting (c : Cells) (N : ℕ) (ys : List ℕ) : Type 0 where
  pub canonical : Canonical N ys c
  pub bounded : Bounded c N ys
  pub once : Once ys
  pub based : 0 < N

-- document 01's tables
pub usual_setting : (n N : ℕ) (t : List ℕ) → Canonical N (usual n) (cell n N t) → 0 < N → Setting (cell n N t) N (usual n)
usual_setting n N t k h =
    record { canonical = k; bounded = cell_bounded n N t; once = usual_once n; based = h }

abbrev pub spot : ℕ → ℕ → Spot
spot v y = record { point = v; letter = y }

-- spots of equal points and letters
pub spot_eq : {v x y z : ℕ} → v ≡ x → y ≡ z → spot v y ≡ spot x z
spot_eq p q = cc

-- x is not the base and is first met at the spot s
abbrev pub Step : Cells → ℕ → List ℕ → Spot → ℕ → Type 0
Step c N ys s x = (x ≡ 0 → ⊥) × (first_met c N ys x ≡ some s)

module _ {c : Cells} {N : ℕ} {ys : List ℕ} (S : Setting c N ys) where
  -- short name for the table in hand
  abbrev path : ℕ → List ℕ
  path = path_of c N ys

  -- a letter leads to one point, and its inverse leads back
  pub inverses : Inverse (Leads c)
  inverses = canonical_inverse S.canonical

  -- an edge leads between points, by a letter of ys
  pub leads_in : (v y x : ℕ) → Leads c v y x → (v < N) × (x < N) × StandsIn ys y
  leads_in v y x l =
      let b = S.bounded v y (λ e. l.1 (sym l.0 ∙ e)) in (b.0, S.canonical.within v y x l, b.1)

  -- each point but the base is first met at a spot of a smaller point
  pub met : (x : ℕ) → (x ≡ 0 → ⊥) → x < N → (s : Spot) × Step c N ys s x × (s.point < x) × Leads c s.point s.letter x
  unfolding first_met
  met x h hx = let a = S.canonical.early x (omega arith) hx in at a.0 a.1 a.2 a.3
    where
      at : (u y : ℕ) → u < x → Leads c u y x → (s : Spot) × Step c N ys s x × (s.point < x) × Leads c s.point s.letter x
      at u y hu l =
          let b = leads_in u y x l in
          let z = eq-eqb (c u (get_or ys b.2.0 0)) x (ap (c u) b.2.2 ∙ l.0) in
          let p = first_row (λ v i. eqb (c v (get_or ys i 0)) x) N (length ys) u b.2.0 b.0 b.2.1 z in
          let y' = get_or ys p.0.index 0 in
          (spot p.0.row y', (h, ap (spot_at ys) p.1), omega arith, (eqb-true (c p.0.row y') x p.3, l.1))

  -- a point is first met once
  pub step_one : (s t : Spot) (x : ℕ) → Step c N ys s x → Step c N ys t x → s ≡ t
  step_one s t x p q = some-injective s t (sym p.1 ∙ q.1)

  -- the last step of a path leads from a smaller point
  pub step_leads : (s : Spot) (x : ℕ) → Step c N ys s x → x < N → (s.point < x) × Leads c s.point s.letter x
  step_leads s x p hx =
      let m = met x p.0 hx in
      subst (λ (t : Spot). (t.point < x) × Leads c t.point t.letter x) (step_one m.0 s x m.1 p) (m.2, m.3)

  path_from_base : (d x : ℕ) → x ≡ 0 → path_from c N ys d x ≡ []
  unfolding path_from
  path_from_base zero x e = refl
  path_from_base (suc d) x e = rw e

  path_from_step : (d : ℕ) (s : Spot) (x : ℕ) → Step c N ys s x → path_from c N ys (suc d) x ≡ path_from c N ys d s.point ++ (s.letter ∷ [])
  unfolding path_from
  path_from_step d s x p = rw (ne_eqb x 0 p.0, p.1)

  -- any number of steps back that is enough gives the same
  pub path_from_enough : (d e x : ℕ) → x ≤ d → x ≤ e → x < N → path_from c N ys d x ≡ path_from c N ys e x
  unfolding path_from
  path_from_enough zero e x hd he hx = sym (path_from_base e x (omega arith))
  path_from_enough (suc d) zero x hd he hx = path_from_base (suc d) x (omega arith)
  path_from_enough (suc d) (suc e) x hd he hx =
      by_cases (ℕ_discrete x 0) (λ z. path_from_base (suc d) x z ∙ sym (path_from_base (suc e) x z))
      (λ z. let m = met x z hx in
      path_from_step d m.0 x m.1
      ∙ ap (λ w. w ++ (m.0.letter ∷ [])) (path_from_enough d e m.0.point (omega arith) (omega arith) (omega arith))
      ∙ sym (path_from_step e m.0 x m.1))

  -- the base's path is empty
  pub path_base : path_of c N ys 0 ≡ []
  unfolding path_of
  path_base = path_from_base 0 0 refl

  -- the path of the point before, then the letter
  pub path_step : (s : Spot) (x : ℕ) → Step c N ys s x → x < N → path_of c N ys x ≡ path_of c N ys s.point ++ (s.letter ∷ [])
  unfolding path_of
  path_step s zero p hx = absurd (p.0 refl)
  path_step s (suc x) p hx =
      let h = step_leads s (suc x) p hx in
      path_from_step x s (suc x) p
      ∙ ap (λ w. w ++ (s.letter ∷ [])) (path_from_enough x s.point s.point (omega arith) (omega arith) (omega arith))

  -- induction along paths
  module _ (P : ℕ → List ℕ → Type 0) (base : P 0 [])
      (on : (s : Spot) (x : ℕ) → Step c N ys s x → x < N → P s.point (path_of c N ys s.point) → P x (path_of c N ys s.point ++ (s.letter ∷ []))) where
    path_below : (d x : ℕ) → x < d → x < N → P x (path x)
    path_below zero x h hx = absurd (omega arith)
    path_below (suc d) x h hx =
        by_cases (ℕ_discrete x 0) (λ z. subst (λ u. P u (path u)) (sym z) (subst (P 0) (sym path_base) base))
        (λ z. let m = met x z hx in
        subst (P x) (sym (path_step m.0 x m.1 hx))
        (on m.0 x m.1 hx (path_below d m.0.point (omega arith) (omega arith))))

    pub path_induct : (x : ℕ) → x < N → P x (path_of c N ys x)
    path_induct x hx = path_below (suc x) x (omega arith) hx

  -- a path leads from the base to its point
  pub path_reads : (x : ℕ) → x < N → Reads (Leads c) 0 (path_of c N ys x) x
  path_reads =
      path_induct (λ x w. Reads (Leads c) 0 w x) refl
      (λ s x p hx r. reads_append (Leads c) 0 (path s.point) s.point (s.letter ∷ []) x r
      (x, (step_leads s x p hx).1, refl))

  -- the path of x has at most x letters
  pub path_length : (x : ℕ) → x < N → length (path_of c N ys x) ≤ x
  path_length =
      path_induct (λ x w. length w ≤ x) (omega arith)
      (λ s x p hx h. let b = step_leads s x p hx in rw length-append (omega arith))

  -- a path with a letter that does not undo its last step is reduced
  pub path_on : (u y x : ℕ) → Leads c u y x → (Step c N ys (spot x (inv y)) u → ⊥) → Reduced (path_of c N ys u) → Reduced (path_of c N ys u ++ (y ∷ []))
  path_on u y x l n h =
      by_cases (ℕ_discrete u 0) (λ z. subst (λ w. Reduced (w ++ (y ∷ []))) (sym (ap (path) z ∙ path_base)) tt)
      (λ z. let m = met u z (leads_in u y x l).0 in last m.0 m.1 m.3)
    where
      -- y does not undo the last letter, since that would lead back to the point before
      last : (s : Spot) → Step c N ys s u → Leads c s.point s.letter u → Reduced (path u ++ (y ∷ []))
      last s p k =
          let e = path_step s u p (leads_in u y x l).0 in
          subst (λ w. Reduced (w ++ (y ∷ []))) (sym e)
          (subst Reduced (sym (append_assoc (path s.point) (s.letter ∷ []) (y ∷ [])))
          (none_overlap letters (path s.point) s.letter (y ∷ []) (subst Reduced e h)
          (ne_eqb y (inv s.letter) back, tt)))
        where
          back : y ≡ inv s.letter → ⊥
          back q =
              let z = subst (λ z. Leads c u z s.point) (sym q) (inverses.back s.point s.letter u k) in
              n (subst (λ t. Step c N ys t u) (spot_eq (inverses.one u y s.point x z l) (sym (ap inv q ∙ letters.twice s.letter))) p)

  -- a path is reduced
  pub path_reduced : (x : ℕ) → x < N → Reduced (path_of c N ys x)
  path_reduced =
      path_induct (λ x w. Reduced w) tt
      (λ s x p hx h. let b = step_leads s x p hx in
      path_on s.point s.letter x b.1
      (λ q. let d = step_leads (spot x (inv s.letter)) s.point q (omega arith) in omega arith) h)
