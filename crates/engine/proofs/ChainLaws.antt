-- New points, and the chain of new points that reads a word (`specs/Engine`, `specs/Stages`).
--   relabelled label n w == the labels with w for point n; a new point gets its label so
--   grown_stage           : one point more keeps the stage
--   Chains .. s a w b t  <-> t comes from s by a chain that reads w from a to b: the stage again, all grown, and the new
--                            points are reached from a and have two letters
--   chain_joinable, chain_next : the first letter of a chain, and what is left of it
--   chained_chains        : chaining does it, for a reduced word
-- A new point has the letter back and the letter on; they differ because the word is reduced. Assumes nothing.
use mathlib.Core.Path.{◌≡◌, refl, sym, ◌∙◌, ap, subst, subst₂}
use mathlib.Core.Logic.{inl, by_cases}
use mathlib.Core.Bool.{cond}
use mathlib.Core.List.{List, [], ◌∷◌, ◌++◌, append_assoc}
use Prim.Native.Nat.{ℕ, suc, ◌+◌, ◌≤◌, ◌<◌}
use native.Mathlib.Decide.{ℕ_discrete}
use native.Mathlib.Omega.{arith}
use lib.Dec.{eqb}
use borrow.Author.Tests.{eq-eqb, ne_eqb, eqb-false}
use Rattle.theory.specs.Words.{inv, inverse_of}
use Rattle.theory.specs.Letters.{StandsIn}
use Rattle.theory.specs.Tables.{absent, Reads}
use Rattle.theory.specs.Graphs.{new_points}
use Rattle.theory.proofs.ReadLaws.{Subgroup}
use Rattle.theory.proofs.LabelLaws.{self_inverse}
use Rattle.engine.specs.Engine.{State, united, joined, grown, chained}
use Rattle.engine.specs.Points.{Between, Over, TwoBetween}
use Rattle.engine.specs.Stages.{Stage, weight, Joinable, Chainable}
use Rattle.engine.proofs.RootLaws.{count_root}
use Rattle.engine.proofs.GrowLaws.{Grows, over_turn, grows_trans, united_one, joined_over}
use Rattle.engine.proofs.StageLaws.{Kept, made_point, united_kept, joined_kept}

-- ── Labels of new points ──

unfoldable pub relabelled : (ℕ → List ℕ) → ℕ → List ℕ → ℕ → List ℕ
relabelled label n w v = cond (eqb v n) w (label v)

relabelled_same : (label : ℕ → List ℕ) (n : ℕ) (w : List ℕ) → relabelled label n w n ≡ w
unfolding relabelled
relabelled_same label n w = rw (eq-eqb n n refl)

relabelled_other : (label : ℕ → List ℕ) (n : ℕ) (w : List ℕ) (v : ℕ) → (v ≡ n → ⊥) → label v ≡ relabelled label n w v
unfolding relabelled
relabelled_other label n w v e = rw (ne_eqb v n e)

module _ {H : List ℕ → Type 0} (S : Subgroup H) {label : ℕ → List ℕ} {ys hand : List ℕ} where
  -- one point more, with any label, keeps the stage
  pub grown_stage : {s : State} → Stage H label ys hand s → (w : List ℕ) → suc s.made ≤ absent
      → Stage H (relabelled label s.made w) ys hand (grown s)
  grown_stage {s} g w h =
      record {
        turn = g.turn;
        within = λ v y x l. omega (arith, g.within v y x l);
        lettered = g.lettered;
        some = omega arith;
        fits = h;
        low = g.low;
        idem = g.idem;
        unmade = λ v k. g.unmade v (omega arith);
        live = g.live;
        waiting = g.waiting;
        base = sym (old 0 g.some) ∙ g.base;
        labelled = λ v y x l.
            subst₂ (λ a b. H (a ++ (y ∷ inverse_of b))) (old v (g.within v y x l))
            (old x (g.within x (inv y) v (g.turn v y x l))) (g.labelled v y x l);
        alike = λ v.
            by_cases (ℕ_discrete v s.made)
            (λ e. subst (λ r. H (relabelled label s.made w v ++ inverse_of (relabelled label s.made w r)))
            (sym (g.unmade v (omega arith))) (self_inverse S (relabelled label s.made w v)))
            (λ n. subst₂ (λ a b. H (a ++ inverse_of b)) (relabelled_other label s.made w v n)
            (relabelled_other label s.made w (s.root v) (λ e. n (newest v e))) (g.alike v));
      }
    where
      old : (v : ℕ) → v < s.made → label v ≡ relabelled label s.made w v
      old v k = relabelled_other label s.made w v (λ e. omega arith)

      newest : (v : ℕ) → s.root v ≡ s.made → v ≡ s.made
      newest v e = sym (g.unmade v (omega (arith, g.low v))) ∙ e

  -- and adds one root
  pub grown_weight : {s : State} → Stage H label ys hand s → weight (grown s) ≡ suc (weight s)
  unfolding weight
  grown_weight {s} g = omega (arith, count_root s.root s.made (g.unmade s.made (omega arith)))

-- ── Chains ──

pub record Chains (H : List ℕ → Type 0) (ys : List ℕ) (s : State) (a : ℕ) (w : List ℕ) (b : ℕ) (t : State) : Type 0 where
  pub label : ℕ → List ℕ
  pub stage : Stage H label ys [] t
  pub grows : Grows s t
  pub made : t.made ≡ s.made + new_points w
  pub weighs : weight t ≡ weight s + new_points w
  -- the word reads
  pub reads : Reads (Between t) (t.root a) w (t.root b)
  -- each new point is reached from a, and has two letters
  pub reached : (v : ℕ) → s.made ≤ v → v < t.made → (u : List ℕ) × Reads (Between t) (t.root a) u (t.root v)
  pub two : (v : ℕ) → s.made ≤ v → v < t.made → TwoBetween t v

module _ {H : List ℕ → Type 0} (S : Subgroup H) {ys : List ℕ} (closed : (z : ℕ) → StandsIn ys z → StandsIn ys (inv z)) where
  -- the empty chain
  nothing_chains : {label : ℕ → List ℕ} (s : State) (a b : ℕ) → Chainable H label ys s a [] b → Chains H ys s a [] b (united s a b)
  nothing_chains {label} s a b c =
      let k = united_kept S c.stage a b c.from c.to c.label_in in
      record {
        label = label;
        stage = k.stage;
        grows = k.grows;
        made = omega (arith, k.made);
        weighs = omega (arith, k.weighs);
        reads = united_one s a b;
        reached = λ v h g. absurd (omega (arith, k.made));
        two = λ v h g. absurd (omega (arith, k.made));
      }

  -- one letter
  letter_chains : {label : ℕ → List ℕ} (s : State) (a y b : ℕ) → Chainable H label ys s a (y ∷ []) b
      → Chains H ys s a (y ∷ []) b (joined s a y b)
  letter_chains {label} s a y b c =
      let k = joined_kept S c.stage a y b (joinable) in
      record {
        label = label;
        stage = k.stage;
        grows = k.grows;
        made = omega (arith, k.made);
        weighs = omega (arith, k.weighs);
        reads = ((joined s a y b).root b, joined_over s a y b c.stage.turn (made_point S c.stage b c.to), refl);
        reached = λ v h g. absurd (omega (arith, k.made));
        two = λ v h g. absurd (omega (arith, k.made));
      }
    where
      joinable : Joinable H label ys [] s a y b
      joinable =
          record {
            from = c.from;
            to = c.to;
            from_live = c.from_live;
            to_live = c.to_live;
            letter = c.letters.0;
            letter_back = closed y c.letters.0;
            label_in = c.label_in;
          }

  -- the first letter of a longer chain, to a new point
  module _ {label : ℕ → List ℕ} (s : State) (a y z : ℕ) (w : List ℕ) (b : ℕ) (c : Chainable H label ys s a (y ∷ (z ∷ w)) b) where
    -- the new point's label is that of the tip, then the letter
    pub label₁ : ℕ → List ℕ
    label₁ = relabelled label s.made (label a ++ (y ∷ []))

    old : (v : ℕ) → v < s.made → label v ≡ label₁ v
    unfolding label₁
    old v k = relabelled_other label s.made (label a ++ (y ∷ [])) v (λ e. omega arith)

    tip : label a ++ (y ∷ []) ≡ label₁ s.made
    unfolding label₁
    tip = sym (relabelled_same label s.made (label a ++ (y ∷ [])))

    -- the new point, made
    pub stage₁ : Stage H label₁ ys [] (grown s)
    unfolding label₁
    stage₁ = grown_stage S c.stage (label a ++ (y ∷ [])) (omega (arith, c.room))

    -- the tip and the new point may be joined
    pub chain_joinable : Joinable H label₁ ys [] (grown s) a y s.made
    chain_joinable =
        record {
          from = omega (arith, c.from);
          to = omega arith;
          from_live = c.from_live;
          to_live = inl (c.stage.unmade s.made (omega arith));
          letter = c.letters.0;
          letter_back = closed y c.letters.0;
          label_in =
              subst₂ (λ l k. H (l ++ (y ∷ inverse_of k))) (old a c.from) tip
              (subst H (append_assoc (label a) (y ∷ []) (inverse_of (label a ++ (y ∷ [])))) (self_inverse S (label a ++ (y ∷ []))));
        }

    -- the letter is joined
    pub kept₁ : Kept H label₁ ys [] (grown s) (joined (grown s) a y s.made)
    kept₁ = joined_kept S stage₁ a y s.made chain_joinable

    -- from the new point the rest may be chained
    pub chain_next : Chainable H label₁ ys (joined (grown s) a y s.made) s.made (z ∷ w) b
    chain_next =
        record {
          stage = kept₁.stage;
          from = omega (arith, kept₁.made);
          to = omega (arith, kept₁.made, c.to);
          from_live = kept₁.live s.made chain_joinable.to_live;
          to_live = kept₁.live b c.to_live;
          letters = c.letters.1;
          reduces = c.reduces.1;
          label_in =
              subst₂ (λ l k. H (l ++ ((z ∷ w) ++ inverse_of k))) tip (old b c.to)
              (subst H (sym (append_assoc (label a) (y ∷ []) ((z ∷ w) ++ inverse_of (label b)))) c.label_in);
          room = omega (arith, kept₁.made, c.room);
        }

    over₁ : Over (joined (grown s) a y s.made) a y s.made
    over₁ = joined_over (grown s) a y s.made c.stage.turn (made_point S stage₁ s.made (omega arith))

    longer_chains : (t : State) → Chains H ys (joined (grown s) a y s.made) s.made (z ∷ w) b t
        → Chains H ys s a (y ∷ (z ∷ w)) b t
    longer_chains t r =
        record {
          label = r.label;
          stage = r.stage;
          grows = record { same = λ v u e. grow.same v u e; over = λ v l u o. grow.over v l u o };
          made = omega (arith, r.made, kept₁.made);
          weighs = omega (arith, r.weighs, kept₁.weighs, grown_weight S c.stage);
          reads = (t.root s.made, there, r.reads);
          reached = λ v h g.
              by_cases (ℕ_discrete v s.made)
              (λ e. (y ∷ [], (t.root s.made, there, ap t.root (sym e))))
              (λ n. let q = r.reached v (omega (arith, kept₁.made)) g in (y ∷ q.0, (t.root s.made, there, q.1)));
          two = λ v h g.
              by_cases (ℕ_discrete v s.made) (λ e. subst (TwoBetween t) (sym e) tip_two)
              (λ n. r.two v (omega (arith, kept₁.made)) g);
        }
      where
        grow : Grows (grown s) t
        grow = grows_trans kept₁.grows r.grows

        there : Over t a y s.made
        there = r.grows.over a y s.made over₁

        tip_two : TwoBetween t s.made
        tip_two = (
          inv y,
          z,
          t.root a,
          r.reads.0,
          λ e. eqb-false z (inv y) c.reduces.0 (sym e),
          over_turn t r.stage.turn a y s.made there,
          r.reads.1,
        )

  -- chaining a reduced word
  pub chained_chains : {label : ℕ → List ℕ} (s : State) (a : ℕ) (w : List ℕ) (b : ℕ) → Chainable H label ys s a w b
      → Chains H ys s a w b (chained s a w b)
  unfolding chained
  chained_chains s a [] b c = nothing_chains s a b c
  chained_chains s a (y ∷ []) b c = letter_chains s a y b c
  chained_chains {label = label} s a (y ∷ (z ∷ w)) b c =
      longer_chains s a y z w b c (chained (joined (grown s) a y s.made) s.made (z ∷ w) b)
      (chained_chains {label = label₁ s a y z w b c} (joined (grown s) a y s.made) s.made (z ∷ w) b (chain_next s a y z w b c))
