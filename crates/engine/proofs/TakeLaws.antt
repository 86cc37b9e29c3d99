-- Taking in a word (`specs/Engine`): read forward from the base, the rest backward, the middle chained.
--   ahead_reads     : what was read, and what is left, are the word
--   start_settled   : the base alone is settled (`specs/Stages`)
--   Read c w u m v a b <-> w is u, m and the inverse of v; u reads from the base to a, v from the base to b
--   chained_settled : then, with the middle chained, the word is taken in
-- How far the two readings go is not used, only that they are readings. Assumes nothing.
use mathlib.Core.Path.{◌≡◌, refl, sym, ◌∙◌, ap, subst, subst₂}
use mathlib.Core.Logic.{inl, ⊎_elim, by_cases}
use mathlib.Core.List.{List, [], ◌∷◌, ◌++◌, append_assoc}
use Prim.Native.Nat.{ℕ, ◌+◌, ◌≤◌, ◌<◌}
use native.Mathlib.Decide.{ℕ_discrete, dec_lt}
use native.Mathlib.Omega.{arith}
use lib.ListN.{length, length-append}
use borrow.Author.Tests.{eq-eqb, ne_eqb}
use Rattle.theory.specs.Words.{inv, reduced, Reduced, inverse_by, inverse_of}
use Rattle.theory.proofs.WordLaws.{letters, inverse_append}
use Rattle.theory.specs.Letters.{StandsIn, AllIn}
use Rattle.theory.specs.Tables.{absent, Cells, Leads, Reads}
use Rattle.theory.specs.Graphs.{new_points}
use Rattle.theory.proofs.WordLaws.{letters}
use Rattle.theory.proofs.ReadLaws.{Inverse, Subgroup, reads_append, reads_back, labels_reads}
use Rattle.theory.proofs.LabelLaws.{self_inverse, alike_swap, alike_sym}
use Rattle.theory.proofs.MemLaws.{◌∈◌, mem-cons, mem-none}
use Rattle.engine.specs.Roots.{root_count}
use Rattle.engine.specs.Engine.{State, Ahead, ahead, chained, start}
use Rattle.engine.specs.Points.{Between, TwoBetween}
use Rattle.engine.specs.Stages.{Live, Stage, weight, Roomy, Chainable, Settled}
use Rattle.engine.proofs.GrowLaws.{Grows, grows_reads, cells_between}
use Rattle.engine.proofs.DrainLaws.{base_root}
use Rattle.engine.proofs.ChainLaws.{Chains, chained_chains}

-- ── Parts of a word ──

reduced_right : (u v : List ℕ) → Reduced (u ++ v) → Reduced v
reduced_right [] v h = h
reduced_right (y ∷ []) [] h = tt
reduced_right (y ∷ []) (z ∷ v) h = h.1
reduced_right (y ∷ (x ∷ u)) v h = reduced_right (x ∷ u) v h.1

reduced_left : (u v : List ℕ) → Reduced (u ++ v) → Reduced u
reduced_left [] v h = tt
reduced_left (y ∷ []) v h = tt
reduced_left (y ∷ (x ∷ u)) v h = (h.0, reduced_left (x ∷ u) v h.1)

all_right : (ys u v : List ℕ) → AllIn ys (u ++ v) → AllIn ys v
all_right ys [] v h = h
all_right ys (y ∷ u) v h = all_right ys u v h.1

all_left : (ys u v : List ℕ) → AllIn ys (u ++ v) → AllIn ys u
all_left ys [] v h = tt
all_left ys (y ∷ u) v h = (h.0, all_left ys u v h.1)

-- ── Reading ahead ──

-- what was read of a word from v, and what is left
pub record Parts (c : Cells) (v : ℕ) (w : List ℕ) (a : Ahead) : Type 0 where
  pub read : List ℕ
  pub joins : w ≡ read ++ a.rest
  pub reads : Reads (Leads c) v read a.point

-- a letter with a cell is read
pub ahead_on : (c : Cells) (v y : ℕ) (w : List ℕ) (x : ℕ) → Leads c v y x → ahead c v (y ∷ w) ≡ ahead c x w
unfolding ahead
ahead_on c v y w x l = rw (l.0, ne_eqb x absent l.1)

-- a letter without one ends the reading
pub ahead_stop : (c : Cells) (v y : ℕ) (w : List ℕ) → c v y ≡ absent → ahead c v (y ∷ w) ≡ record { point = v; rest = y ∷ w }
unfolding ahead
ahead_stop c v y w e = rw (eq-eqb (c v y) absent e)

-- backward, the last letter's inverse is read first
pub behind_on : (c : Cells) (v y : ℕ) (w : List ℕ) (x : ℕ) → Leads c v (inv y) x
    → ahead c v (inverse_of (w ++ (y ∷ []))) ≡ ahead c x (inverse_of w)
unfolding inverse_by
behind_on c v y w x l =
    ap (ahead c v) (inverse_append letters w (y ∷ [])) ∙ ahead_on c v (inv y) (inverse_of w) x l

-- what was read and what is left are the word
pub ahead_reads : (c : Cells) (v : ℕ) (w : List ℕ) → Parts c v w (ahead c v w)
unfolding ahead
ahead_reads c v [] = record { read = []; joins = refl; reads = refl }
ahead_reads c v (y ∷ w) =
    by_cases (ℕ_discrete (c v y) absent)
    (λ e. rw (eq-eqb (c v y) absent e) (record { read = []; joins = refl; reads = refl }))
    (λ n. rw (ne_eqb (c v y) absent n) (longer n (ahead_reads c (c v y) w)))
  where
    longer : (c v y ≡ absent → ⊥) → Parts c (c v y) w (ahead c (c v y) w) → Parts c v (y ∷ w) (ahead c (c v y) w)
    longer n p =
        record { read = y ∷ p.read; joins = ap (λ l. y ∷ l) p.joins; reads = (c v y, (refl, n), p.reads) }

-- ── Between two words ──

-- the base alone
pub start_settled : (H : List ℕ → Type 0) → Subgroup H → (ys : List ℕ) → Settled H ys [] start
unfolding start weight root_count
start_settled H S ys =
    record {
      label = λ v. [];
      stage =
          record {
            turn = λ v y x l. absurd (l.1 (sym l.0));
            within = λ v y x l. absurd (l.1 (sym l.0));
            lettered = λ v y x l. absurd (l.1 (sym l.0));
            some = omega arith;
            fits = omega arith;
            low = λ v. omega arith;
            idem = λ v. refl;
            unmade = λ v h. refl;
            live = λ v y x l. inl refl;
            waiting = λ v m e. mem-none m;
            base = refl;
            labelled = λ v y x l. absurd (l.1 (sym l.0));
            alike = λ v. self_inverse S [];
          };
      roomy = omega arith;
      loops = λ w m. absurd (mem-none m);
      reached = λ v h. let e : 0 ≡ v = omega arith in ([], e);
      two = λ v h g. absurd (omega arith);
    }

module _ {H : List ℕ → Type 0} (S : Subgroup H) {ys : List ℕ} where
  module _ {label : ℕ → List ℕ} {s : State} (g : Stage H label ys [] s) where
    -- the cells are an inverse deterministic graph
    pub stage_inverse : Inverse (Leads s.cells)
    stage_inverse = record { one = λ v y x z a b. sym a.0 ∙ b.0; back = g.turn }

    -- a point read from the base is made and live
    read_made : (v : ℕ) (w : List ℕ) (x : ℕ) → v < s.made → Reads (Leads s.cells) v w x → x < s.made
    read_made v [] x h r = omega (arith, r)
    read_made v (y ∷ w) x h r = read_made r.0 w x (g.within r.0 (inv y) v (g.turn v y r.0 r.1)) r.2

    read_live : (v : ℕ) (w : List ℕ) (x : ℕ) → Live [] s v → Reads (Leads s.cells) v w x → Live [] s x
    read_live v [] x h r = subst (Live [] s) r h
    read_live v (y ∷ w) x h r = read_live r.0 w x (g.live r.0 (inv y) v (g.turn v y r.0 r.1)) r.2

    -- its label differs from the word read by an element of H
    read_label : (w : List ℕ) (x : ℕ) → Reads (Leads s.cells) 0 w x → H (w ++ inverse_of (label x))
    read_label w x r =
        subst (λ l. H (l ++ (w ++ inverse_of (label x)))) g.base (labels_reads S label g.labelled 0 w x r)

    -- the middle of a word of H fits the labels of its ends
    middle_label : (u m v : List ℕ) (a b : ℕ) → Reads (Leads s.cells) 0 u a → Reads (Leads s.cells) 0 v b
        → H (u ++ (m ++ inverse_of v)) → H (label a ++ (m ++ inverse_of (label b)))
    middle_label u m v a b p q h =
        subst H (append_assoc (label a) m (inverse_of (label b)))
        (alike_swap S (label a ++ m) v (inverse_of (label b))
        (subst H (sym (append_assoc (label a) m (inverse_of v)))
        (alike_swap S (label a) u (m ++ inverse_of v) (alike_sym S u (label a) (read_label u a p)) h))
        (read_label v b q))

-- two letters at a point stay two
two_grows : {s t : State} → Grows s t → (v : ℕ) → TwoBetween s v → TwoBetween t v
two_grows {s} {t} g v o =
    let a = o.5 in
    let b = o.6 in (
      o.0,
      o.1,
      t.root a.1,
      t.root b.1,
      o.4,
      g.over v o.0 a.1 (a.0, a.1, a.2, a.3, refl),
      g.over v o.1 b.1 (b.0, b.1, b.2, b.3, refl),
    )

module _ {H : List ℕ → Type 0} {ys : List ℕ} where
  -- what reads from the base still does
  reads_grow : {label label' : ℕ → List ℕ} {s t : State} → Stage H label ys [] s → Stage H label' ys [] t → Grows s t
      → (w : List ℕ) (x : ℕ) → Reads (Between s) 0 w (s.root x) → Reads (Between t) 0 w (t.root x)
  reads_grow {s = s} {t = t} f g k w x r =
      subst (λ p. Reads (Between t) p w (t.root x)) (base_root g)
      (grows_reads k 0 w x (subst (λ p. Reads (Between s) p w (s.root x)) (sym (base_root f)) r))

  loops_grow : {label label' : ℕ → List ℕ} {s t : State} → Stage H label ys [] s → Stage H label' ys [] t → Grows s t
      → (w : List ℕ) → Reads (Between s) 0 w 0 → Reads (Between t) 0 w 0
  loops_grow {s = s} {t = t} f g k w r =
      subst (Reads (Between t) 0 w) (base_root g)
      (reads_grow f g k w 0 (subst (Reads (Between s) 0 w) (sym (base_root f)) r))

  -- fewer words
  pub settled_fewer : {us vs : List (List ℕ)} {s : State} → ((w : List ℕ) → w ∈ vs → w ∈ us) → Settled H ys us s → Settled H ys vs s
  settled_fewer f k =
      record {
        label = k.label;
        stage = k.stage;
        roomy = k.roomy;
        loops = λ w m. k.loops w (f w m);
        reached = k.reached;
        two = k.two;
      }

  -- a state that has grown without new points
  pub settled_grows : {us : List (List ℕ)} {s t : State} (k : Settled H ys us s) → Stage H k.label ys [] t → Grows s t
      → t.made ≡ s.made → Roomy t → Settled H ys us t
  settled_grows k g f m r =
      record {
        label = k.label;
        stage = g;
        roomy = r;
        loops = λ w i. loops_grow k.stage g f (reduced w) (k.loops w i);
        reached = λ v h.
            let q = k.reached v (omega arith) in (q.0, reads_grow k.stage g f q.0 v q.1);
        two = λ v h i. two_grows f v (k.two v h (omega arith));
      }

-- a word w as three parts, the first read from the base to a and the inverse of the last from the base to b
pub record Read (c : Cells) (w u m v : List ℕ) (a b : ℕ) : Type 0 where
  pub joins : w ≡ u ++ (m ++ inverse_of v)
  pub first : Reads (Leads c) 0 u a
  pub last : Reads (Leads c) 0 v b

-- a part of a word needs no more new points
pub part_points : (w u m v : List ℕ) → w ≡ u ++ (m ++ v) → new_points m ≤ new_points w
part_points w u m v e = omega (arith, ap length e ∙ length-append u (m ++ v), length-append m v)

module _ {H : List ℕ → Type 0} (S : Subgroup H) {ys : List ℕ} (closed : (z : ℕ) → StandsIn ys z → StandsIn ys (inv z)) where
  -- the middle of a word of H may be chained
  pub stage_chainable : {label : ℕ → List ℕ} {s : State} → Stage H label ys [] s → (w u m v : List ℕ) (a b : ℕ)
      → Read s.cells w u m v a b → Reduced w → AllIn ys w → H w → s.made + new_points w ≤ absent → Chainable H label ys s a m b
  stage_chainable g w u m v a b p reduces all member room =
      record {
        stage = g;
        from = read_made S g 0 u a g.some p.first;
        to = read_made S g 0 v b g.some p.last;
        from_live = read_live S g 0 u a (inl (base_root g)) p.first;
        to_live = read_live S g 0 v b (inl (base_root g)) p.last;
        letters = all_left ys m (inverse_of v) (all_right ys u (m ++ inverse_of v) (subst (AllIn ys) p.joins all));
        reduces = reduced_left m (inverse_of v) (reduced_right u (m ++ inverse_of v) (subst Reduced p.joins reduces));
        label_in = middle_label S g u m v a b p.first p.last (subst H p.joins member);
        room = omega (arith, part_points w u m (inverse_of v) p.joins);
      }

  module _ {us : List (List ℕ)} {s : State} (k : Settled H ys us s) (q w u m v : List ℕ) (a b : ℕ) (is : reduced q ≡ w)
      (p : Read s.cells w u m v a b) (reduces : Reduced w) (all : AllIn ys w) (member : H w)
      (room : s.made + new_points w ≤ absent) where
    chainable : Chainable H k.label ys s a m b
    chainable = stage_chainable k.stage w u m v a b p reduces all member room

    chain : Chains H ys s a m b (chained s a m b)
    chain = chained_chains S closed s a m b chainable

    word_loop : Reads (Between (chained s a m b)) 0 w 0
    word_loop =
        subst₂ (λ x l. Reads (Between (chained s a m b)) x l x) (base_root chain.stage) (sym p.joins)
        (reads_append (Between t) (t.root 0) u (t.root a) (m ++ inverse_of v) (t.root 0)
        (grows_reads chain.grows 0 u a (cells_between s 0 u a p.first))
        (reads_append (Between t) (t.root a) m (t.root b) (inverse_of v) (t.root 0) chain.reads
        (grows_reads chain.grows b (inverse_of v) 0
        (cells_between s b (inverse_of v) 0 (reads_back (stage_inverse S k.stage) 0 v b p.last)))))
      where
        t : State
        t = chained s a m b

    -- the word is taken in
    pub chained_settled : Settled H ys (q ∷ us) (chained s a m b)
    chained_settled =
        record {
          label = chain.label;
          stage = chain.stage;
          roomy = omega (arith, chain.made, chain.weighs, k.roomy);
          loops = λ l i.
              ⊎_elim (λ e. subst (λ x. Reads (Between (chained s a m b)) 0 x 0) (sym (ap reduced e ∙ is)) word_loop)
              (λ j. loops_grow k.stage chain.stage chain.grows (reduced l) (k.loops l j)) (mem-cons i);
          reached = λ x h. by_cases (dec_lt x s.made) (old x) (λ n. new x (omega arith) h);
          two = λ x g h.
              by_cases (dec_lt x s.made) (λ i. two_grows chain.grows x (k.two x g i)) (λ n. chain.two x (omega arith) h);
        }
      where
        t : State
        t = chained s a m b

        old : (x : ℕ) → x < s.made → (l : List ℕ) × Reads (Between t) 0 l (t.root x)
        old x i = let r = k.reached x i in (r.0, reads_grow k.stage chain.stage chain.grows r.0 x r.1)

        new : (x : ℕ) → s.made ≤ x → x < t.made → (l : List ℕ) × Reads (Between t) 0 l (t.root x)
        new x i h =
            let r = chain.reached x i h in (
              u ++ r.0,
              reads_append (Between t) 0 u (t.root a) r.0 (t.root x)
                  (reads_grow k.stage chain.stage chain.grows u a
                  (subst (λ z. Reads (Between s) z u (s.root a)) (base_root k.stage) (cells_between s 0 u a p.first)))
                  r.1,
            )

    -- with at most a new point for each letter but one
    pub chained_made : (chained s a m b).made ≤ s.made + new_points w
    chained_made = omega (arith, chain.made, part_points w u m (inverse_of v) p.joins)
