-- One subgroup, one table (document 01, 'The table' and 'Other operations'), for any letter order.
--   point_reached      : each point is reached from the base by a reduced word
--   canonical_home     : in a canonical table there is a reduced way home from each point that does not start with a given letter
--   onward_table       : a reduced word that reads from the base begins a reduced word that is accepted
--   one_table          : canonical tables that accept the same words are equal
--   AcceptsExactly c ws <-> the cells c accept exactly the members of the subgroup of ws
--   tables_equal, equal_tables, rows_of_cells, cells_of_rows: the same for tables as lists, and their converses
-- A word that leads to x in one table and to z in the other makes x and z twins: `twins` shows that points are their own.
-- Assumes nothing.
use mathlib.Core.Path.{◌≡◌, refl, sym, ◌∙◌, ap, subst, subst₂, fun_ext}
use mathlib.Core.Logic.{◌⊎◌, inl, inr, ⊎_elim, by_cases}
use mathlib.Core.Bool.{◌&&◌}
use mathlib.Core.List.{List, [], ◌∷◌, ◌++◌, map}
use Prim.Native.Nat.{ℕ, zero, suc, ◌+◌, ◌*◌, ◌/◌, ◌%◌, ◌≤◌, ◌<◌}
use native.Mathlib.Nat.{mul-zero, mod-lt, div-lt_iff_lt-mul, div-add-mod'}
use native.Mathlib.Decide.{ℕ_discrete, dec_le}
use native.Mathlib.Omega.{arith}
use lib.Dec.{eqb, ltb}
use lib.Arith.{digits_lt}
use lib.ListN.{length, get_or, take}
use lib.Seq.{length-take-le, get_or-take, ext_get_or}
use borrow.Author.Tests.{eqb-false, ltb-true}
use Rattle.theory.specs.Words.{inv, reduced, Reduced, inverse_of, SameSubgroup}
use Rattle.theory.specs.Letters.{usual}
use Rattle.theory.specs.Tables.{absent, Cells, cell, Leads, Reads, Accepts}
use Rattle.theory.specs.Canonical.{Canonical, row_of, rows_before, earlier, greatest_met}
pub use Rattle.theory.specs.Subgroups.{AcceptsExactly}
use Rattle.theory.proofs.WordLaws.{by_test, letters, reduced_none, reduced_fixed}
use Rattle.theory.proofs.RefusalLaws.{and_true}
use Rattle.theory.proofs.ReadLaws.{
  Steps,
  Inverse,
  reads_append,
  reads_split,
  reads_one,
  reads_back,
  reads_reduced,
  ends_loop,
  loop_ends,
  canonical_inverse,
}
use Rattle.theory.proofs.TableLaws.{Bounded, cell_in, cell_bounded}
use Rattle.theory.proofs.HomeLaws.{StartsNot, last_from, reduced_join, Home, Homeward, onward, same_words}

-- a cell that leads somewhere is not absent
pub leads_here : (c : Cells) (v y x : ℕ) → Leads c v y x → c v y ≡ absent → ⊥
leads_here c v y x l e = l.1 (sym l.0 ∙ e)

-- the first letter of a word, if any, leads from v to a smaller point
abbrev Falls : Cells → ℕ → List ℕ → Type 0
Falls c v [] = Unit {0}
Falls c v (y ∷ w) = (x : ℕ) → Leads c v y x → x < v

-- a way that falls does not start with a letter that leads no lower
falls_not : (c : Cells) (v z : ℕ) (w : List ℕ) (x : ℕ) → Falls c v w → Leads c v z x → v ≤ x → StartsNot z w
falls_not c v z [] x f l h = tt
falls_not c v z (a ∷ w) x f l h = λ e. omega (arith, f x (subst (λ y. Leads c v y x) (sym e) l))

-- a reduced way home along points met before
record Down (c : Cells) (v : ℕ) : Type 0 where
  way : List ℕ
  reads : Reads (Leads c) v way 0
  reduces : Reduced way
  falls : Falls c v way

module _ {N : ℕ} {ys : List ℕ} {c : Cells} (k : Canonical N ys c) where
  -- the way of v is the letter back to the point from whose row it was met, then that point's way
  down_step : (v u y : ℕ) → u < v → Leads c u y v → Down c u → Down c v
  down_step v u y h l m =
      record {
        way = inv y ∷ m.way;
        reads = (u, b, m.reads);
        reduces = reduced_join (inv y) [] m.way tt m.reduces
            (falls_not c u (inv (inv y)) m.way v m.falls (k.inverse v (inv y) u b) (omega arith));
        falls = λ x r. omega (arith, sym b.0 ∙ r.0);
      }
    where
      b : Leads c v (inv y) u
      b = k.inverse u y v l

  down : (d v : ℕ) → v ≤ d → v < N → Down c v
  down zero v h hv = record { way = []; reads = omega arith; reduces = tt; falls = tt }
  down (suc d) v h hv =
      by_cases (ℕ_discrete v 0) (λ e. record { way = []; reads = e; reduces = tt; falls = tt })
      (λ e. let p = k.early v (omega arith) hv in
      down_step v p.0 p.1 p.2 p.3 (down d p.0 (omega arith) (omega arith)))

  -- a letter other than f, then a way home that does not start with its inverse
  home_step : (v f z x : ℕ) → (z ≡ f → ⊥) → Leads c v z x → Home (Leads c) 0 x (inv z) → Home (Leads c) 0 v f
  home_step v f z x n l m =
      record {
        way = z ∷ m.way;
        reads = (x, l, m.reads);
        reduces = reduced_join z [] m.way tt m.reduces m.starts;
        starts = n;
      }

  -- each point but the base has a letter other than f
  other : (v f : ℕ) → 1 ≤ v → v < N → (z : ℕ) × (z ≡ f → ⊥) × (c v z ≡ absent → ⊥)
  other v f h hv =
      let p = k.two v h hv in
      by_cases (ℕ_discrete p.0 f) (λ e. (p.1, (λ q. p.2 (e ∙ sym q)), p.4)) (λ e. (p.0, e, p.3))

  -- a letter that leads no higher and then down, or a letter that leads higher: there are only N points
  home : (d v f : ℕ) → N ≤ v + d → v < N → Home (Leads c) 0 v f
  home zero v f h hv = absurd (omega arith)
  home (suc d) v f h hv =
      by_cases (ℕ_discrete v 0) (λ e. record { way = []; reads = e; reduces = tt; starts = tt })
      (λ e. let o = other v f (omega arith) hv in
      let l : Leads c v o.0 (c v o.0) = (refl, o.2) in
      let x = c v o.0 in
      let hx : x < N = k.within v o.0 x l in
      home_step v f o.0 x o.1 l
      (by_cases (dec_le x v) (λ g. fallen o.0 x l g (down x x (omega arith) hx))
      (λ g. home d x (inv o.0) (omega arith) hx)))
    where
      fallen : (z x : ℕ) → Leads c v z x → x ≤ v → Down c x → Home (Leads c) 0 x (inv z)
      fallen z x l g m =
          record {
            way = m.way;
            reads = m.reads;
            reduces = m.reduces;
            starts = falls_not c x (inv z) m.way v m.falls (k.inverse v z x l) g;
          }

  -- a word leads from a point to a point
  pub reads_within : (v : ℕ) (w : List ℕ) (x : ℕ) → v < N → Reads (Leads c) v w x → x < N
  reads_within v [] x h r = subst (λ p. p < N) r h
  reads_within v (y ∷ w) x h r = reads_within r.0 w x (k.within v y r.0 r.1) r.2

  -- each point is reached from the base by a reduced word
  pub point_reached : (v : ℕ) → v < N → (w : List ℕ) × Reduced w × Reads (Leads c) 0 w v
  point_reached v h =
      let m = down v v (omega arith) h in
      let I = canonical_inverse k in (
        reduced (inverse_of m.way),
        reduced_none letters (inverse_of m.way),
        reads_reduced I 0 (inverse_of m.way) v (reads_back I v m.way 0 m.reads),
      )

  -- from each point there is a reduced way home that does not start with a given letter
  pub canonical_home : 0 < N → Homeward (Leads c) 0
  canonical_home h p f u r = home N p f (omega arith) (reads_within 0 u p h r)

  -- a reduced word that reads from the base begins a reduced word that is accepted
  pub onward_table : 0 < N → (w : List ℕ) (p : ℕ) → Reduced w → Reads (Leads c) 0 w p → (v : List ℕ) × Reduced (w ++ v) × Accepts c (w ++ v)
  onward_table h w p d r =
      let o = onward (canonical_home h) w p d r in
      (o.0, o.1, rw (reduced_fixed letters (w ++ o.0) o.1) (reads_append (Leads c) 0 w p o.0 0 r o.2))

-- what begins a reduced word that is accepted reads from the base
pub begun_reads : (c : Cells) (w v : List ℕ) → Reduced (w ++ v) → Accepts c (w ++ v) → (p : ℕ) × Reads (Leads c) 0 w p
begun_reads c w v d r =
    let s = reads_split (Leads c) 0 w v 0 (rw (reduced_fixed letters (w ++ v) d) at r) in (s.0, s.1)

-- ── One letter more ──

-- a word, then a letter from where it ends
pub reads_snoc : (E : Steps) (b : ℕ) (w : List ℕ) (p z x : ℕ) → Reads E b w p → E p z x → Reads E b (w ++ (z ∷ [])) x
reads_snoc E b w p z x r l = reads_append E b w p (z ∷ []) x r (x, l, refl)

-- the last step of a word
last_step : (E : Steps) (v y : ℕ) (w : List ℕ) (x : ℕ) → Reads E v (y ∷ w) x → (q : ℕ) × E q (last_from y w) x
last_step E v y [] x r = (v, subst (E v y) r.2 r.1)
last_step E v y (z ∷ w) x r = last_step E r.0 z w x r.2

-- after a reduced word a letter leads on, or the word and the letter are reduced
pub next_letter : {E : Steps} → Inverse E → (b : ℕ) (w : List ℕ) (p z : ℕ) → Reduced w → Reads E b w p → ((q : ℕ) × E p z q) ⊎ Reduced (w ++ (z ∷ []))
next_letter I b [] p z d r = inr tt
next_letter {E} I b (y ∷ w) p z d r =
    by_cases (ℕ_discrete z (inv (last_from y w)))
    (λ e. let s = last_step E b y w p r in
    inl (s.0, subst (λ l. E p l s.0) (sym e) (I.back s.0 (last_from y w) p s.1)))
    (λ e. inr (reduced_join y w (z ∷ []) d tt e))

-- ── Twins ──

-- two canonical tables that accept the same words
record Alike (ys : List ℕ) (N M : ℕ) (c d : Cells) : Type 0 where
  left : Canonical N ys c
  right : Canonical M ys d
  some_left : 0 < N
  some_right : 0 < M
  there : (q : List ℕ) → Accepts c q → Accepts d q
  back : (q : List ℕ) → Accepts d q → Accepts c q

-- one reduced word leads to x in the first table and to z in the second
record Twin (c d : Cells) (x z : ℕ) : Type 0 where
  word : List ℕ
  reduces : Reduced word
  left : Reads (Leads c) 0 word x
  right : Reads (Leads d) 0 word z

turned : {ys : List ℕ} {N M : ℕ} {c d : Cells} → Alike ys N M c d → Alike ys M N d c
turned a =
    record {
      left = a.right;
      right = a.left;
      some_left = a.some_right;
      some_right = a.some_left;
      there = a.back;
      back = a.there;
    }

swapped : {c d : Cells} {x z : ℕ} → Twin c d x z → Twin d c z x
swapped t = record { word = t.word; reduces = t.reduces; left = t.right; right = t.left }

module _ {ys : List ℕ} {N M : ℕ} {c d : Cells} (a : Alike ys N M c d) where
  -- a point has one twin
  twin_one : (x z z' : ℕ) → Twin c d x z → Twin c d x z' → z ≡ z'
  twin_one x z z' s t =
      loop_ends (canonical_inverse a.right) 0 s.word t.word z z' s.right t.right
      (a.there (s.word ++ inverse_of t.word)
      (ends_loop (canonical_inverse a.left) 0 s.word t.word x x s.left t.left refl))

  -- a letter that leads on from a point leads on from its twin
  twin_leads : (v u y x : ℕ) → Twin c d v u → Leads c v y x → (z : ℕ) × Leads d u y z
  twin_leads v u y x t l =
      ⊎_elim (λ q. q) reads_on (next_letter (canonical_inverse a.right) 0 t.word u y t.reduces t.right)
    where
      loops : (r : List ℕ) → Reduced r → Reads (Leads c) 0 r 0 → Reads (Leads d) 0 r 0
      loops r h q =
          rw (reduced_fixed letters r h) at (a.there r (rw (reduced_fixed letters r h) q))

      reads_on : Reduced (t.word ++ (y ∷ [])) → (z : ℕ) × Leads d u y z
      reads_on h =
          let s = same_words (canonical_home a.left a.some_left) (Leads d) 0 loops (t.word ++ (y ∷ [])) x h
          (reads_snoc (Leads c) 0 t.word v y x t.left l) in
          let o = reads_split (Leads d) 0 t.word (y ∷ []) s.0 s.1 in
          let e = reads_one (canonical_inverse a.right) 0 t.word o.0 u o.1 t.right in
          (o.2.0, subst (λ p. Leads d p y o.2.0) e o.2.1)

  -- and leads to the twin
  twin_step : (v u y x : ℕ) → Twin c d v u → Leads c v y x → (z : ℕ) × Leads d u y z × Twin c d x z
  twin_step v u y x t l =
      let s = twin_leads v u y x t l in (
        s.0,
        s.1,
        record {
          word = reduced (t.word ++ (y ∷ []));
          reduces = reduced_none letters (t.word ++ (y ∷ []));
          left = reads_reduced (canonical_inverse a.left) 0 (t.word ++ (y ∷ [])) x
              (reads_snoc (Leads c) 0 t.word v y x t.left l);
          right = reads_reduced (canonical_inverse a.right) 0 (t.word ++ (y ∷ [])) s.0
              (reads_snoc (Leads d) 0 t.word u y s.0 t.right s.1);
        },
      )

-- ── Numbers by breadth ──

-- each of some cells is absent or below v
abbrev AllBelow : ℕ → List ℕ → Type 0
AllBelow v [] = Unit {0}
AllBelow v (x ∷ l) = ((x ≡ absent → ⊥) → x < v) × AllBelow v l

-- the greatest point met in them is below v
met_below : (v : ℕ) (l : List ℕ) → 0 < v → AllBelow v l → greatest_met l < v
unfolding greatest_met
met_below v [] h b = h
met_below v (x ∷ l) h b =
    let g : greatest_met l < v = met_below v l h b.1 in
    by_test (eqb x absent) (λ e. rw e g) (λ e. rw e (omega (arith, b.0 (eqb-false x absent e))))

below_append : (v : ℕ) (k l : List ℕ) → AllBelow v k → AllBelow v l → AllBelow v (k ++ l)
below_append v [] l a b = b
below_append v (x ∷ k) l a b = (a.0, below_append v k l a.1 b)

below_map : (v : ℕ) (f : ℕ → ℕ) (ys : List ℕ) → ((y : ℕ) → (f y ≡ absent → ⊥) → f y < v) → AllBelow v (map f ys)
below_map v f [] h = tt
below_map v f (y ∷ ys) h = (h y, below_map v f ys h)

below_take : (v : ℕ) (f : ℕ → ℕ) (i : ℕ) (ys : List ℕ) → ((j : ℕ) → j < i → j < length ys → (f (get_or ys j 0) ≡ absent → ⊥) → f (get_or ys j 0) < v) → AllBelow v (take i (map f ys))
below_take v f zero ys h = tt
below_take v f (suc i) [] h = tt
below_take v f (suc i) (y ∷ ys) h =
    (h 0 (omega arith) (omega arith), below_take v f i ys (λ j p q. h (suc j) (omega arith) (omega arith)))

-- the cells of the rows before row u lead below v
abbrev Rows : Cells → ℕ → ℕ → Type 0
Rows c v u = (p y x : ℕ) → p < u → Leads c p y x → x < v

-- the cells of row u before place i lead below v
abbrev Row : Cells → List ℕ → ℕ → ℕ → ℕ → Type 0
Row c ys v u i = (j x : ℕ) → j < i → j < length ys → Leads c u (get_or ys j 0) x → x < v

below_rows : (c : Cells) (ys : List ℕ) (v u : ℕ) → Rows c v u → AllBelow v (rows_before c ys u)
unfolding rows_before row_of
below_rows c ys v zero h = tt
below_rows c ys v (suc u) h =
    below_append v (rows_before c ys u) (row_of c ys u) (below_rows c ys v u (λ p y x g l. h p y x (omega arith) l))
    (below_map v (c u) ys (λ y g. h u y (c u y) (omega arith) (refl, g)))

-- the next point is at most v
earlier_below : (c : Cells) (ys : List ℕ) (v u i : ℕ) → 0 < v → Rows c v u → Row c ys v u i → greatest_met (earlier c ys u i) < v
unfolding earlier row_of
earlier_below c ys v u i h r s =
    met_below v (earlier c ys u i) h
    (below_append v (rows_before c ys u) (take i (row_of c ys u)) (below_rows c ys v u r)
    (below_take v (c u) i ys (λ j p q g. s j (c u (get_or ys j 0)) p q (refl, g))))

module _ {ys : List ℕ} {N M : ℕ} {c d : Cells} (a : Alike ys N M c d) (bounded : Bounded c N ys) where
  -- v is not the base, and the points below v are their own twins
  module _ (v : ℕ) (positive : 0 < v) (lower : (u : ℕ) → u < v → Twin c d u u) where
    -- a cell that leads below v in the first table does so in the second
    below_too : (u y x : ℕ) → u < v → ((z : ℕ) → Leads c u y z → z < v) → Leads d u y x → x < v
    below_too u y x h b l =
        let s = twin_step (turned a) u u y x (swapped (lower u h)) l in
        let g : s.0 < v = b s.0 s.1 in
        omega (arith, twin_one a s.0 x s.0 (swapped s.2) (lower s.0 g))

    -- the first cell that does not lead below v leads to v, in both tables
    met : (u i x : ℕ) → u < v → i < length ys → Rows c v u → Row c ys v u i → Leads c u (get_or ys i 0) x → v ≤ x → Twin c d v v
    met u i x h hi r s l g =
        let t = twin_step a u u (get_or ys i 0) x (lower u h) l in
        let rows : Rows d v u = λ p y z q m. below_too p y z (omega arith) (λ e n. r p y e q n) m in
        let row : Row d ys v u i = λ j z p q m. below_too u (get_or ys j 0) z h (λ e n. s j e p q n) m in
        let high : v ≤ t.0 =
        by_cases (dec_le v t.0) (λ e. e)
        (λ e. absurd (omega (arith, twin_one (turned a) t.0 x t.0 (swapped t.2) (swapped (lower t.0 (omega arith)))))) in
        subst₂ (Twin c d)
        (omega (arith, a.left.next u i x hi l, earlier_below c ys v u i positive r s))
        (omega (arith, a.right.next u i t.0 hi t.1, earlier_below d ys v u i positive rows row))
        t.2

    row_met : (u : ℕ) → u < v → Rows c v u → (i : ℕ) → i ≤ length ys → Twin c d v v ⊎ Row c ys v u i
    row_met u h r zero g = inr (λ j x p q l. absurd (omega arith))
    row_met u h r (suc i) g =
        ⊎_elim inl
        (λ s. by_cases (ℕ_discrete (c u (get_or ys i 0)) absent) (λ e. inr (one_more s (λ n. absurd (n e))))
        (λ e. by_cases (dec_le v (c u (get_or ys i 0)))
        (λ m. inl (met u i (c u (get_or ys i 0)) h (omega arith) r s (refl, e) m)) (λ m. inr (one_more s (λ n. omega arith)))))
        (row_met u h r i (omega arith))
      where
        one_more : Row c ys v u i → ((c u (get_or ys i 0) ≡ absent → ⊥) → c u (get_or ys i 0) < v) → Row c ys v u (suc i)
        one_more s b j x p q l =
            by_cases (ℕ_discrete j i)
            (λ e. let m : Leads c u (get_or ys i 0) x = subst (λ k. Leads c u (get_or ys k 0) x) e l in
            omega (arith, m.0, b (leads_here c u (get_or ys i 0) x m)))
            (λ e. s j x (omega arith) q l)

    rows_met : (u : ℕ) → u ≤ v → Twin c d v v ⊎ Rows c v u
    rows_met zero h = inr (λ p y x q l. absurd (omega arith))
    rows_met (suc u) h =
        ⊎_elim inl (λ r. ⊎_elim inl (λ s. inr (one_more r s)) (row_met u (omega arith) r (length ys) (omega arith)))
        (rows_met u (omega arith))
      where
        one_more : Rows c v u → Row c ys v u (length ys) → Rows c v (suc u)
        one_more r s p y x q l =
            by_cases (ℕ_discrete p u)
            (λ e. let m : Leads c u y x = subst (λ k. Leads c k y x) e l in
            let b = bounded u y (leads_here c u y x m) in
            s b.1.0 x b.1.1 b.1.1 (subst (λ k. Leads c u k x) (sym b.1.2) m))
            (λ e. r p y x (omega arith) l)

  base_twin : (v : ℕ) → v ≡ 0 → Twin c d v v
  base_twin v e = record { word = []; reduces = tt; left = sym e; right = sym e }

  -- each point is its own twin
  twins : (n v : ℕ) → v ≤ n → v < N → Twin c d v v
  twins zero v h hv = base_twin v (omega arith)
  twins (suc n) v h hv =
      by_cases (ℕ_discrete v 0) (base_twin v)
      (λ e. ⊎_elim (λ t. t)
      (λ r. let p = a.left.early v (omega arith) hv in absurd (omega (arith, r p.0 p.1 v p.2 p.3)))
      (rows_met v (omega arith) (λ u g. twins n u (omega arith) (omega arith)) v (omega arith)))

  -- what is a point of the first table is a point of the second
  points_kept : (v : ℕ) → v < N → v < M
  points_kept v h =
      let t = twins v v (omega arith) h in reads_within a.right 0 t.word v a.some_right t.right

  -- what a letter does in the first table it does in the second
  cells_kept : (v y x : ℕ) → Leads c v y x → Leads d v y x
  cells_kept v y x l =
      let h : v < N = (bounded v y (leads_here c v y x l)).0 in
      let s = twin_step a v v y x (twins v v (omega arith) h) l in
      subst (Leads d v y) (twin_one a x s.0 x s.2 (twins x x (omega arith) (a.left.within v y x l))) s.1

  no_fewer : N ≤ M
  no_fewer = by_cases (dec_le N M) (λ h. h) (λ h. absurd (omega (arith, points_kept M (omega arith))))

-- canonical tables that accept the same words are equal
pub one_table : {ys : List ℕ} {N M : ℕ} {c d : Cells} → Canonical N ys c → Canonical M ys d → 0 < N → 0 < M → Bounded c N ys → Bounded d M ys → ((q : List ℕ) → Accepts c q → Accepts d q) → ((q : List ℕ) → Accepts d q → Accepts c q) → (N ≡ M) × ((v y : ℕ) → c v y ≡ d v y)
one_table {ys} {N} {M} {c} {d} k m hN hM bc bd f g = (
  omega (arith, no_fewer a bc, no_fewer (turned a) bd),
  λ v y. by_cases (ℕ_discrete (c v y) absent)
      (λ e. by_cases (ℕ_discrete (d v y) absent) (λ o. e ∙ sym o) (λ o. (cells_kept (turned a) bd v y (d v y) (refl, o)).0))
      (λ e. sym (cells_kept a bc v y (c v y) (refl, e)).0),
)
  where
    a : Alike ys N M c d
    a = record { left = k; right = m; some_left = hN; some_right = hM; there = f; back = g }

-- ── Tables of lists ──

-- tables of one subgroup are equal cell for cell
pub tables_equal : (n : ℕ) {N M : ℕ} (t s : List ℕ) (us ws : List (List ℕ)) → Canonical N (usual n) (cell n N t) → Canonical M (usual n) (cell n M s) → 0 < N → 0 < M → AcceptsExactly (cell n N t) us → AcceptsExactly (cell n M s) ws → SameSubgroup us ws → (N ≡ M) × ((v y : ℕ) → cell n N t v y ≡ cell n M s v y)
tables_equal n {N} {M} t s us ws k m hN hM a b h =
    one_table k m hN hM (cell_bounded n N t) (cell_bounded n M s)
    (λ q r. b.0 q (h.onward q (a.1 q r))) (λ q r. a.0 q (h.back q (b.1 q r)))

-- equal cells are of one subgroup
pub equal_tables : (c d : Cells) (us ws : List (List ℕ)) → AcceptsExactly c us → AcceptsExactly d ws → ((v y : ℕ) → c v y ≡ d v y) → SameSubgroup us ws
equal_tables c d us ws a b h =
    record {
      onward = λ q r. b.1 q (subst (λ e. Accepts e q) same (a.0 q r));
      back = λ q r. a.1 q (subst (λ e. Accepts e q) (sym same) (b.0 q r));
    }
  where
    same : c ≡ d
    same = fun_ext (λ v. fun_ext (λ y. h v y))

-- the rows of a table are given by its cells
pub rows_of_cells : (n : ℕ) {N M : ℕ} (t s : List ℕ) → N * (2 * n) ≤ length t → M * (2 * n) ≤ length s → N ≡ M → ((v y : ℕ) → cell n N t v y ≡ cell n M s v y) → take (N * (2 * n)) t ≡ take (M * (2 * n)) s
rows_of_cells n {N} {M} t s ht hs e h =
    ext_get_or absent (take (N * (2 * n)) t) (take (M * (2 * n)) s)
    (length-take-le (N * (2 * n)) t ht ∙ ap (λ k. k * (2 * n)) e ∙ sym (length-take-le (M * (2 * n)) s hs))
    (λ i b. let g : i < N * (2 * n) = subst (λ k. i < k) (length-take-le (N * (2 * n)) t ht) b in
    get_or-take (N * (2 * n)) t i absent g ∙ same i g ∙ sym (get_or-take (M * (2 * n)) s i absent (rw e at g)))
  where
    same : (i : ℕ) → i < N * (2 * n) → get_or t i absent ≡ get_or s i absent
    same i g =
        let w : 0 < 2 * n = by_cases (ℕ_discrete (2 * n) 0) (λ z. absurd (omega (arith, rw (z, mul-zero) at g))) (λ z. omega arith) in
        let y : i % (2 * n) < 2 * n = mod-lt i w in
        let v : i / (2 * n) < N = (div-lt_iff_lt-mul w).1 g in
        subst (λ j. get_or t j absent ≡ get_or s j absent) (div-add-mod' i (2 * n))
        (sym (cell_in n N t (i / (2 * n)) (i % (2 * n)) v y)
        ∙ h (i / (2 * n)) (i % (2 * n))
        ∙ cell_in n M s (i / (2 * n)) (i % (2 * n)) (rw e at v) y)

-- the cells of a table are given by its rows
pub cells_of_rows : (n : ℕ) {N M : ℕ} (t s : List ℕ) → N ≡ M → take (N * (2 * n)) t ≡ take (M * (2 * n)) s → (v y : ℕ) → cell n N t v y ≡ cell n M s v y
unfolding cell
cells_of_rows n {N} {M} t s e h v y =
    by_test (ltb v N && ltb y (2 * n))
    (λ b. rw (← e, b)
    (let a = and_true (ltb v N) (ltb y (2 * n)) b in
    same (digits_lt (ltb-true v N a.0) (ltb-true y (2 * n) a.1))))
    (λ b. rw (← e, b))
  where
    same : v * (2 * n) + y < N * (2 * n) → get_or t (v * (2 * n) + y) absent ≡ get_or s (v * (2 * n) + y) absent
    same g =
        sym (get_or-take (N * (2 * n)) t (v * (2 * n) + y) absent g)
        ∙ ap (λ l. get_or l (v * (2 * n) + y) absent) h
        ∙ get_or-take (M * (2 * n)) s (v * (2 * n) + y) absent (rw e at g)
