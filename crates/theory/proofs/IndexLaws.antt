-- The index (document 01, 'The table') is the number of cosets, for any letter order.
--   AllIn ys w      <-> every letter of w stands in ys
--   SameCoset c u v <-> u followed by the inverse of v is accepted
--   Full c N ys, Gap c N ys <-> no cell, some cell of the N rows and the letters ys is absent
--   Cosets c ys N   <-> there are N words over ys, one of each coset: `full_cosets`, `index_finite`
--   Endless c ys    <-> there are words over ys without end, no two of them in one coset: `gap_cosets`, `index_infinite`
--   index_of_full, full_index_of, index_of_gap, gap_index_of: the computed index is N exactly if no cell is absent, else infinite
-- Assumes nothing.
use mathlib.Core.Path.{◌≡◌, refl, sym, ◌∙◌, ap, subst}
use mathlib.Core.Logic.{◌⊎◌, inl, inr, ⊎_elim, by_cases}
use mathlib.Core.Bool.{Bool, true, false, not, ◌&&◌, and_assoc, true≢false}
use mathlib.Core.List.{List, [], ◌∷◌, ◌++◌, map, append_assoc}
use Prim.Native.Nat.{ℕ, zero, suc, ◌+◌, ◌-◌, ◌<◌}
use native.Mathlib.Decide.{ℕ_discrete, dec_lt}
use native.Mathlib.Omega.{arith}
use lib.Dec.{eqb}
use lib.ListN.{length, get_or, replicate, replicate-append-replicate}
use borrow.Author.Tests.{eq-eqb, ne_eqb, eqb-true, not-true, not-false}
use Rattle.theory.specs.Words.{inv, reduced, Reduced, inverse_of}
use Rattle.theory.specs.Tables.{absent, Cells, Leads, Reads}
use Rattle.theory.specs.Canonical.{Canonical}
pub use Rattle.theory.specs.Subgroups.{SameCoset, Cosets, Endless}
pub use Rattle.theory.specs.Letters.{AllIn}
use Rattle.theory.specs.Basis.{Spot, spots_of, scan, finite, infinite, all, index_of, is_full}
use Rattle.theory.proofs.WordLaws.{by_test, letters, reduced_idem, reduced_fixed, gone_between, inverse_cong, inverse_append, inverse_inverse, inverse_right}
use Rattle.theory.proofs.RefusalLaws.{and_true}
use Rattle.theory.proofs.ReadLaws.{reads_split, reads_one, reads_back, reads_reduced, ends_loop, loop_ends, canonical_inverse, loop_reads}
use Rattle.theory.proofs.TableLaws.{StandsIn, Bounded}
use Rattle.theory.proofs.OneTable.{leads_here, point_reached, next_letter}

abbrev pub Full : Cells → ℕ → List ℕ → Type 0
Full c N ys = (v y : ℕ) → v < N → StandsIn ys y → c v y ≡ absent → ⊥

abbrev pub Gap : Cells → ℕ → List ℕ → Type 0
Gap c N ys = (v : ℕ) × (y : ℕ) × (v < N) × StandsIn ys y × (c v y ≡ absent)

-- ── Cosets ──

-- the letters of a word that reads stand in the letter order
pub reads_all_in : (c : Cells) (N : ℕ) (ys : List ℕ) → Bounded c N ys → (v : ℕ) (w : List ℕ) (x : ℕ) → Reads (Leads c) v w x → AllIn ys w
reads_all_in c N ys b v [] x r = tt
reads_all_in c N ys b v (y ∷ w) x r =
    ((b v y (leads_here c v y r.0 r.1)).1, reads_all_in c N ys b r.0 w x r.2)

module _ {N : ℕ} {ys : List ℕ} {c : Cells} (k : Canonical N ys c) where
  -- where no cell is absent each word over the letters reads
  pub full_reads : Full c N ys → (v : ℕ) (w : List ℕ) → v < N → AllIn ys w → (x : ℕ) × (x < N) × Reads (Leads c) v w x
  full_reads f v [] h a = (v, h, refl)
  full_reads f v (y ∷ w) h a =
      let l : Leads c v y (c v y) = (refl, f v y h a.0) in
      let s = full_reads f (c v y) w (k.within v y (c v y) l) a.1 in (s.0, s.1, (c v y, l, s.2))

  -- words in one coset end at one point
  pub coset_ends : (u v : List ℕ) (x z : ℕ) → Reads (Leads c) 0 u x → Reads (Leads c) 0 v z → SameCoset c u v → x ≡ z
  coset_ends u v x z r s h = loop_ends (canonical_inverse k) 0 u v x z r s h

  -- words that end at one point are in one coset
  pub ends_coset : (u v : List ℕ) (x z : ℕ) → Reads (Leads c) 0 u x → Reads (Leads c) 0 v z → x ≡ z → SameCoset c u v
  ends_coset u v x z r s h = ends_loop (canonical_inverse k) 0 u v x z r s h

  -- to lie in one coset is symmetric
  pub coset_sym : (u v : List ℕ) → SameCoset c u v → SameCoset c v u
  coset_sym u v h =
      subst (λ w. Reads (Leads c) 0 w 0)
      (inverse_cong letters (reduced (u ++ inverse_of v)) (u ++ inverse_of v) (reduced_idem letters (u ++ inverse_of v))
      ∙ ap reduced (inverse_append letters u (inverse_of v) ∙ ap (λ w. w ++ inverse_of u) (inverse_inverse letters v)))
      (reads_reduced (canonical_inverse k) 0 (inverse_of (reduced (u ++ inverse_of v))) 0
      (reads_back (canonical_inverse k) 0 (reduced (u ++ inverse_of v)) 0 h))

  -- where a word of a coset leads, each reduced word of the coset leads
  pub coset_reads : (u v : List ℕ) (z : ℕ) → Reads (Leads c) 0 v z → SameCoset c u v → Reads (Leads c) 0 (reduced u) z
  coset_reads u v z r h = loop_reads (canonical_inverse k) 0 u v z r h

  -- what follows two words of one coset may be taken away
  pub coset_cancel : (u v w : List ℕ) → SameCoset c (u ++ w) (v ++ w) → SameCoset c u v
  coset_cancel u v w h =
      subst (λ r. Reads (Leads c) 0 r 0)
      (ap reduced (ap (λ r. (u ++ w) ++ r) (inverse_append letters v w) ∙ grouped (inverse_of w) (inverse_of v))
      ∙ gone_between letters u (w ++ inverse_of w) (inverse_of v) (inverse_right letters w)) h
    where
      grouped : (a b : List ℕ) → (u ++ w) ++ (a ++ b) ≡ u ++ ((w ++ a) ++ b)
      grouped a b = simp append_assoc

-- ── No cell absent ──

-- N words over ys, one of each coset
-- where no cell is absent, the N points are the cosets
pub full_cosets : {N : ℕ} {ys : List ℕ} {c : Cells} → Canonical N ys c → 0 < N → Bounded c N ys → Full c N ys → Cosets c ys N
full_cosets {N} {ys} {c} k hN b f =
    record {
      word = λ i h. (to i h).0;
      over = λ i h. reads_all_in c N ys b 0 (to i h).0 i (to i h).2;
      apart = λ i j h g s. coset_ends k (to i h).0 (to j g).0 i j (to i h).2 (to j g).2 s;
      cover = λ w a. let e = full_reads k f 0 w hN a in
          let t = to e.0 e.1 in (e.0, e.1, ends_coset k w t.0 e.0 e.0 e.2 t.2 refl);
    }
  where
    to : (i : ℕ) → i < N → (w : List ℕ) × Reduced w × Reads (Leads c) 0 w i
    to = point_reached k

-- ── Some cell absent ──

-- words over ys without end, no two of them in one coset
all_in_append : (ys u w : List ℕ) → AllIn ys u → AllIn ys w → AllIn ys (u ++ w)
all_in_append ys [] w a b = b
all_in_append ys (y ∷ u) w a b = (a.0, all_in_append ys u w a.1 b)

all_in_replicate : (ys : List ℕ) (y i : ℕ) → StandsIn ys y → AllIn ys (replicate i y)
all_in_replicate ys y zero h = tt
all_in_replicate ys y (suc i) h = (h, all_in_replicate ys y i h)

-- a letter may be repeated
powers_reduced : (p : List ℕ) (y m : ℕ) → Reduced (p ++ (y ∷ [])) → Reduced (p ++ replicate (suc m) y)
unfolding inv
powers_reduced [] y zero h = tt
powers_reduced [] y (suc m) h = (ne_eqb y (inv y) (λ e. omega arith), powers_reduced [] y m tt)
powers_reduced (a ∷ []) y m h = (h.0, powers_reduced [] y m tt)
powers_reduced (a ∷ (b ∷ p)) y m h = (h.0, powers_reduced (b ∷ p) y m h.1)

-- y is absent at v, and p is a reduced word that leads to v
module _ {N : ℕ} {ys : List ℕ} {c : Cells} (k : Canonical N ys c) (v y : ℕ) (gone : c v y ≡ absent)
    (p : List ℕ) (none : Reduced p) (reads : Reads (Leads c) 0 p v) where
  power : ℕ → List ℕ
  power i = p ++ replicate i y

  -- p and then some letters y: reduced, and not in the coset of p
  power_reduced : (m : ℕ) → Reduced (power (suc m))
  unfolding power
  power_reduced m =
      ⊎_elim (λ q. absurd (leads_here c v y q.0 q.1 gone)) (powers_reduced p y m)
      (next_letter (canonical_inverse k) 0 p v y none reads)

  power_apart : (m : ℕ) → SameCoset c (power (suc m)) p → ⊥
  unfolding power
  power_apart m h =
      let r : Reads (Leads c) 0 (power (suc m)) v =
      rw (reduced_fixed letters (power (suc m)) (power_reduced m)) at (coset_reads k (power (suc m)) p v reads h) in
      let s = reads_split (Leads c) 0 p (replicate (suc m) y) v r in
      leads_here c s.0 y s.2.0 s.2.1 (rw (reads_one (canonical_inverse k) 0 p s.0 v s.1 reads) gone)

  -- a longer power is in no shorter one's coset
  longer_apart : (i j : ℕ) → j < i → SameCoset c (power i) (power j) → ⊥
  unfolding power
  longer_apart i j g h =
      power_apart (i - suc j) (coset_cancel k (power (suc (i - suc j))) p (replicate j y) (subst (λ w. SameCoset c w (power j)) split h))
    where
      split : power i ≡ power (suc (i - suc j)) ++ replicate j y
      split =
          (let e : i ≡ suc (i - suc j) + j = omega arith in ap power e)
          ∙ ap (λ w. p ++ w) (sym (replicate-append-replicate (suc (i - suc j)) j y))
          ∙ sym (append_assoc p (replicate (suc (i - suc j)) y) (replicate j y))

  powers_apart : (i j : ℕ) → SameCoset c (power i) (power j) → i ≡ j
  powers_apart i j h =
      by_cases (dec_lt j i) (λ g. absurd (longer_apart i j g h))
      (λ g. by_cases (dec_lt i j) (λ e. absurd (longer_apart j i e (coset_sym k (power i) (power j) h))) (λ e. omega arith))

  powers_in : StandsIn ys y → AllIn ys p → (i : ℕ) → AllIn ys (power i)
  unfolding power
  powers_in h a i = all_in_append ys p (replicate i y) a (all_in_replicate ys y i h)

-- where some cell is absent, there are cosets without end
pub gap_cosets : {N : ℕ} {ys : List ℕ} {c : Cells} → Canonical N ys c → Bounded c N ys → Gap c N ys → Endless c ys
gap_cosets {N} {ys} {c} k b g =
    let p = point_reached k g.0 g.2 in
    record {
      word = power k g.0 g.1 g.4 p.0 p.1 p.2;
      over = powers_in k g.0 g.1 g.4 p.0 p.1 p.2 g.3 (reads_all_in c N ys b 0 p.0 g.0 p.2);
      apart = powers_apart k g.0 g.1 g.4 p.0 p.1 p.2;
    }

-- ── The computed index ──

all_append : {A : Type 0} (f : A → Bool) (k l : List A) → all f (k ++ l) ≡ (all f k && all f l)
unfolding all
all_append f [] l = refl
all_append f (a ∷ k) l = ap (λ b. f a && b) (all_append f k l) ∙ sym (and_assoc (f a) (all f k) (all f l))

-- one of the tests of an `&&` fails
and_fails : (a b : Bool) → (a && b) ≡ false → (a ≡ false) ⊎ (b ≡ false)
and_fails true b e = inr e
and_fails false b e = inl refl

-- where all of a row pass, each does
row_pass : {A : Type 0} (f : A → Bool) (g : ℕ → A) (ys : List ℕ) → all f (map g ys) ≡ true → (i : ℕ) → i < length ys → f (g (get_or ys i 0)) ≡ true
unfolding all
row_pass f g [] e i h = absurd (omega arith)
row_pass f g (y ∷ ys) e zero h = (and_true (f (g y)) (all f (map g ys)) e).0
row_pass f g (y ∷ ys) e (suc i) h = row_pass f g ys (and_true (f (g y)) (all f (map g ys)) e).1 i (omega arith)

-- where not all of a row pass, some place does not
row_fail : {A : Type 0} (f : A → Bool) (g : ℕ → A) (ys : List ℕ) → all f (map g ys) ≡ false → (i : ℕ) × (i < length ys) × (f (g (get_or ys i 0)) ≡ false)
unfolding all
row_fail f g [] e = absurd (true≢false e)
row_fail f g (y ∷ ys) e =
    ⊎_elim (λ a. (0, omega arith, a)) (λ a. let s = row_fail f g ys a in (suc s.0, omega arith, s.2))
    (and_fails (f (g y)) (all f (map g ys)) e)

-- where all cells of N rows pass, each does
pub scan_pass : (f : Spot → Bool) (N : ℕ) (ys : List ℕ) → all f (scan N ys) ≡ true → (v y : ℕ) → v < N → StandsIn ys y → f (record { point = v; letter = y }) ≡ true
unfolding scan spots_of
scan_pass f zero ys e v y h s = absurd (omega arith)
scan_pass f (suc N) ys e v y h s =
    let a = and_true (all f (scan N ys)) (all f (spots_of ys N)) (sym (all_append f (scan N ys) (spots_of ys N)) ∙ e) in
    by_cases (ℕ_discrete v N)
    (λ q. subst (λ l. f (record { point = v; letter = l }) ≡ true) s.2
    (subst (λ u. f (record { point = u; letter = get_or ys s.0 0 }) ≡ true) (sym q)
    (row_pass f (λ l. record { point = N; letter = l }) ys a.1 s.0 s.1)))
    (λ q. scan_pass f N ys a.0 v y (omega arith) s)

-- where not all cells of N rows pass, some cell does not
pub scan_fail : (f : Spot → Bool) (N : ℕ) (ys : List ℕ) → all f (scan N ys) ≡ false → (v : ℕ) × (y : ℕ) × (v < N) × StandsIn ys y × (f (record { point = v; letter = y }) ≡ false)
unfolding scan spots_of all
scan_fail f zero ys e = absurd (true≢false e)
scan_fail f (suc N) ys e =
    ⊎_elim (λ a. let s = scan_fail f N ys a in (s.0, s.1, omega arith, s.3, s.4))
    (λ a. let s = row_fail f (λ l. record { point = N; letter = l }) ys a in
    (N, get_or ys s.0 0, omega arith, (s.0, s.1, refl), s.2))
    (and_fails (all f (scan N ys)) (all f (spots_of ys N)) (sym (all_append f (scan N ys) (spots_of ys N)) ∙ e))

module _ (c : Cells) (N : ℕ) (ys : List ℕ) where
  -- the cell of a spot is not absent
  is_here : Spot → Bool
  is_here s = not (eqb (c s.point s.letter) absent)

  full_of_all : all is_here (scan N ys) ≡ true → Full c N ys
  unfolding is_here
  full_of_all t v y h s e =
      true≢false (sym (eq-eqb (c v y) absent e) ∙ not-true (eqb (c v y) absent) (scan_pass is_here N ys t v y h s))

  gap_of_all : all is_here (scan N ys) ≡ false → Gap c N ys
  unfolding is_here
  gap_of_all t =
      let g = scan_fail is_here N ys t in
      (g.0, g.1, g.2, g.3, eqb-true (c g.0 g.1) absent (not-false (eqb (c g.0 g.1) absent) g.4))

  -- no cell is absent, or some cell is
  pub full_or_gap : Full c N ys ⊎ Gap c N ys
  full_or_gap = by_test (all is_here (scan N ys)) (λ t. inl (full_of_all t)) (λ t. inr (gap_of_all t))

  -- the index is N where no cell is absent
  pub index_of_full : Full c N ys → index_of c N ys ≡ finite N
  unfolding index_of is_full is_here
  index_of_full f =
      by_test (all is_here (scan N ys)) (λ t. rw t)
      (λ t. let g = gap_of_all t in absurd (f g.0 g.1 g.2 g.3 g.4))

  -- the index is infinite where some cell is absent
  pub index_of_gap : Gap c N ys → index_of c N ys ≡ infinite
  unfolding index_of is_full is_here
  index_of_gap g =
      by_test (all is_here (scan N ys)) (λ t. absurd (full_of_all t g.0 g.1 g.2 g.3 g.4)) (λ t. rw t)

  -- where the index is finite no cell is absent, and it is N
  pub full_index_of : (m : ℕ) → index_of c N ys ≡ finite m → Full c N ys × (m ≡ N)
  full_index_of m e =
      ⊎_elim (λ f. (f, let q = sym (index_of_full f) ∙ e in cc))
      (λ g. let q = sym (index_of_gap g) ∙ e in let z : ◌≡◌ {A = ℕ} 0 1 = cc in absurd (omega arith)) full_or_gap

  -- where the index is infinite some cell is absent
  pub gap_index_of : index_of c N ys ≡ infinite → Gap c N ys
  gap_index_of e =
      ⊎_elim (λ f. let q = sym (index_of_full f) ∙ e in let z : ◌≡◌ {A = ℕ} 0 1 = cc in absurd (omega arith)) (λ g. g)
      full_or_gap

module _ {N : ℕ} {ys : List ℕ} {c : Cells} (k : Canonical N ys c) (b : Bounded c N ys) where
  -- a finite index is the number of cosets
  pub index_finite : 0 < N → (m : ℕ) → index_of c N ys ≡ finite m → Cosets c ys m
  index_finite h m e = let f = full_index_of c N ys m e in rw f.1 (full_cosets k h b f.0)

  -- where the index is infinite there are cosets without end
  pub index_infinite : index_of c N ys ≡ infinite → Endless c ys
  index_infinite e = gap_cosets k b (gap_index_of c N ys e)
