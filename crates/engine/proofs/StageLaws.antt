-- Uniting and joining keep the stage (`specs/Stages`).
--   Kept .. s t       <-> s to t is a step: the stage again, all grown, live points still live, no point made, weight unchanged
--   united_kept, joined_kept : uniting and joining are steps
-- Of H only `Subgroup H` is used. Assumes nothing.
use mathlib.Core.Path.{◌≡◌, refl, sym, ◌∙◌, ap, subst, subst₂, subst₃}
use mathlib.Core.Logic.{◌⊎◌, inl, inr, ⊎_elim, by_cases}
use mathlib.Core.List.{List, ◌∷◌, ◌++◌}
use Prim.Native.Nat.{ℕ, ◌<◌}
use native.Mathlib.Decide.{ℕ_discrete}
use native.Mathlib.Omega.{arith}
use Rattle.theory.specs.Words.{inv, inverse_of}
use Rattle.theory.specs.Letters.{StandsIn}
use Rattle.theory.specs.Tables.{absent, Leads, Steps}
use Rattle.theory.proofs.ReadLaws.{Subgroup}
use Rattle.theory.proofs.LabelLaws.{Labelled, labelled_turn, alike_swap, alike_sym, alike_ends}
use Rattle.theory.proofs.MemLaws.{◌∈◌, here, further, mem-cons, mem-append, mem-left, mem-right}
use Rattle.engine.specs.Cells.{linked}
use Rattle.engine.specs.Roots.{absorbed}
use Rattle.engine.specs.Engine.{State, with_cells, pushed, united, joined}
use Rattle.engine.specs.Stages.{Live, Stage, weight, Joinable}
use Rattle.engine.proofs.CellLaws.{linked_cases, linked_turn}
use Rattle.engine.proofs.RootLaws.{absorbed_hit, absorbed_miss, absorbed_back, count_absorbed}
use Rattle.engine.proofs.GrowLaws.{Grows, grows_refl, grows_trans, united_cases, pushed_grows, joined_cases, joined_grows}

pub record Kept (H : List ℕ → Type 0) (label : ℕ → List ℕ) (ys hand : List ℕ) (s t : State) : Type 0 where
  pub stage : Stage H label ys hand t
  pub grows : Grows s t
  pub live : (v : ℕ) → Live hand s v → Live hand t v
  pub made : t.made ≡ s.made
  pub weighs : weight t ≡ weight s

-- doing nothing is a step
pub kept_refl : {H : List ℕ → Type 0} {label : ℕ → List ℕ} {ys hand : List ℕ} {s : State} → Stage H label ys hand s
    → Kept H label ys hand s s
kept_refl {s = s} g = record { stage = g; grows = grows_refl s; live = λ v l. l; made = refl; weighs = refl }

-- steps follow each other
pub kept_trans : {H : List ℕ → Type 0} {label : ℕ → List ℕ} {ys hand : List ℕ} {r s t : State}
    → Kept H label ys hand r s → Kept H label ys hand s t → Kept H label ys hand r t
kept_trans f g =
    record {
      stage = g.stage;
      grows = grows_trans f.grows g.grows;
      live = λ v l. g.live v (f.live v l);
      made = g.made ∙ f.made;
      weighs = g.weighs ∙ f.weighs;
    }

-- ── One pending point more ──

mem_more : (h l : List ℕ) (x v : ℕ) → v ∈ (h ++ l) → v ∈ (h ++ (x ∷ l))
mem_more h l x v m = ⊎_elim (λ a. mem-left (x ∷ l) a) (λ b. mem-right h (further b)) (mem-append h m)

mem_less : (h l : List ℕ) (x v : ℕ) → v ∈ (h ++ (x ∷ l)) → (v ≡ x) ⊎ (v ∈ (h ++ l))
mem_less h l x v m =
    ⊎_elim (λ a. inr (mem-left l a)) (λ b. ⊎_elim inl (λ d. inr (mem-right h d)) (mem-cons b)) (mem-append h m)

module _ {H : List ℕ → Type 0} (S : Subgroup H) {label : ℕ → List ℕ} {ys hand : List ℕ} where
  -- two names of one point have labels that differ by an element of H
  pub alike_names : {s : State} → Stage H label ys hand s → (v u : ℕ) → s.root v ≡ s.root u
      → H (label v ++ inverse_of (label u))
  alike_names {s} g v u e =
      alike_swap S (label v) (label (s.root v)) (inverse_of (label u)) (g.alike v)
      (subst (λ r. H (label r ++ inverse_of (label u))) (sym e) (alike_sym S (label u) (label (s.root u)) (g.alike u)))

  -- the root of a point made is made
  pub root_made : {s : State} → Stage H label ys hand s → (v : ℕ) → v < s.made → s.root v < s.made
  root_made g v h = omega (arith, g.low v)

  -- a point that a cell names is made
  pub named_made : {s : State} → Stage H label ys hand s → (v y x : ℕ) → Leads s.cells v y x → x < s.made
  named_made g v y x l = g.within x (inv y) v (g.turn v y x l)

  -- a point made is not the absent mark
  pub made_point : {s : State} → Stage H label ys hand s → (v : ℕ) → v < s.made → v ≡ absent → ⊥
  made_point g v h e = omega (arith, g.fits)

  -- ── Uniting ──

  module _ {s : State} (g : Stage H label ys hand s) (lo hi : ℕ) (rl : s.root lo ≡ lo) (rh : s.root hi ≡ hi)
      (lower : lo < hi) (inside : hi < s.made) (m : H (label hi ++ inverse_of (label lo))) where
    pushed_live : (v : ℕ) → Live hand s v → Live hand (pushed s lo hi) v
    pushed_live v l =
        ⊎_elim
        (λ e. by_cases (ℕ_discrete v hi) (λ q. inr (mem-right hand (here q)))
        (λ n. inl (absorbed_miss s.root lo hi v (λ q. n (sym e ∙ q)) ∙ e)))
        (λ p. inr (mem_more hand s.pending hi v p)) l

    pushed_idem : (v : ℕ) → absorbed s.root lo hi (absorbed s.root lo hi v) ≡ absorbed s.root lo hi v
    pushed_idem v =
        by_cases (ℕ_discrete (s.root v) hi)
        (λ e. let q = absorbed_hit s.root lo hi v e in
        ap (absorbed s.root lo hi) q ∙ absorbed_miss s.root lo hi lo (λ d. omega arith) ∙ rl ∙ sym q)
        (λ n. let q = absorbed_miss s.root lo hi v n in
        ap (absorbed s.root lo hi) q
        ∙ absorbed_miss s.root lo hi (s.root v) (λ d. n (sym (g.idem v) ∙ d)) ∙ g.idem v ∙ sym q)

    pushed_kept : Kept H label ys hand s (pushed s lo hi)
    unfolding weight
    pushed_kept =
        record {
          stage =
              record {
                turn = g.turn;
                within = g.within;
                lettered = g.lettered;
                some = g.some;
                fits = g.fits;
                low = λ v.
                    by_cases (ℕ_discrete (s.root v) hi)
                    (λ e. omega (arith, absorbed_hit s.root lo hi v e, g.low v))
                    (λ n. omega (arith, absorbed_miss s.root lo hi v n, g.low v));
                idem = pushed_idem;
                unmade = λ v h.
                    absorbed_miss s.root lo hi v (λ e. omega (arith, g.unmade v h)) ∙ g.unmade v h;
                live = λ v y x l. pushed_live v (g.live v y x l);
                waiting = λ v p e.
                    let b = absorbed_back s.root lo hi rl rh lower v e in
                    ⊎_elim b.0 (λ q. g.waiting v q b.1) (mem_less hand s.pending hi v p);
                base = g.base;
                labelled = g.labelled;
                alike = λ v.
                    by_cases (ℕ_discrete (s.root v) hi)
                    (λ e. subst (λ r. H (label v ++ inverse_of (label r))) (sym (absorbed_hit s.root lo hi v e))
                    (alike_swap S (label v) (label hi) (inverse_of (label lo))
                    (subst (λ r. H (label v ++ inverse_of (label r))) e (g.alike v)) m))
                    (λ n. subst (λ r. H (label v ++ inverse_of (label r))) (sym (absorbed_miss s.root lo hi v n)) (g.alike v));
              };
          grows = pushed_grows s lo hi;
          live = pushed_live;
          made = refl;
          weighs = omega (arith, count_absorbed s.root lo hi rl rh lower s.made inside);
        }

  -- uniting two points made, whose labels differ by an element of H, is a step
  pub united_kept : {s : State} → Stage H label ys hand s → (p q : ℕ) → p < s.made → q < s.made
      → H (label p ++ inverse_of (label q)) → Kept H label ys hand s (united s p q)
  united_kept {s} g p q hp hq m =
      united_cases (Kept H label ys hand s) s p q (λ e. kept_refl g)
      (λ lo hi a. ⊎_elim (λ h. push lo hi q p a.lower h.1 h.0 hq (alike_sym S (label p) (label q) m))
      (λ h. push lo hi p q a.lower h.0 h.1 hp m) a.which)
    where
      push : (lo hi u v : ℕ) → lo < hi → s.root u ≡ hi → s.root v ≡ lo → u < s.made
          → H (label u ++ inverse_of (label v)) → Kept H label ys hand s (pushed s lo hi)
      push lo hi u v h e d k n =
          pushed_kept g lo hi (ap s.root (sym d) ∙ g.idem v ∙ d) (ap s.root (sym e) ∙ g.idem u ∙ e) h
          (omega (arith, g.low u))
          (subst₂ (λ a b. H (label a ++ inverse_of (label b))) e d
          (alike_swap S (label (s.root u)) (label u) (inverse_of (label (s.root v)))
          (alike_sym S (label u) (label (s.root u)) (g.alike u))
          (alike_swap S (label u) (label v) (inverse_of (label (s.root v))) n (g.alike v))))

  -- ── Joining ──

  linked_stage : {s : State} → Stage H label ys hand s → (a y b : ℕ) → Joinable H label ys hand s a y b → s.cells a y ≡ absent
      → s.cells b (inv y) ≡ absent → Stage H label ys hand (with_cells s (linked s.cells a y b))
  linked_stage {s} g a y b j e d =
      record {
        turn = linked_turn s.cells a y b (made_point g a j.from) (made_point g b j.to) e d g.turn;
        within = λ v z x l. cases v z x (λ p q r. p < s.made) j.from j.to g.within l;
        lettered = λ v z x l. cases v z x (λ p q r. StandsIn ys q) j.letter j.letter_back g.lettered l;
        some = g.some;
        fits = g.fits;
        low = g.low;
        idem = g.idem;
        unmade = g.unmade;
        live = λ v z x l. cases v z x (λ p q r. Live hand s p) j.from_live j.to_live g.live l;
        waiting = g.waiting;
        base = g.base;
        labelled = λ v z x l.
            cases v z x (Labelled H label) j.label_in (labelled_turn S label a y b j.label_in) g.labelled l;
        alike = g.alike;
      }
    where
      cases : (v z x : ℕ) (P : Steps) → P a y b → P b (inv y) a → ((p q r : ℕ) → Leads s.cells p q r → P p q r)
          → Leads (linked s.cells a y b) v z x → P v z x
      cases v z x P f h k l =
          ⊎_elim
          (λ i. ⊎_elim (λ t. subst₃ P (sym t.0) (sym t.1) (sym t.2) f)
          (λ t. subst₃ P (sym t.0) (sym t.1) (sym t.2) h) i)
          (k v z x) (linked_cases s.cells a y b v z x l)

  -- joining is a step
  pub joined_kept : {s : State} → Stage H label ys hand s → (a y b : ℕ) → Joinable H label ys hand s a y b
      → Kept H label ys hand s (joined s a y b)
  unfolding weight
  joined_kept {s} g a y b j =
      joined_cases (λ t. Grows s t → Kept H label ys hand s t) s a y b
      (λ e d k. record { stage = linked_stage g a y b j e d; grows = k; live = λ v l. l; made = refl; weighs = refl })
      (λ x l k. united_kept g x b (g.within x (inv y) a (g.turn a y x l)) j.to
      (alike_ends S (label a) (label x) (label b) y (g.labelled a y x l) j.label_in))
      (λ x l k. united_kept g x a (g.within x (inv (inv y)) b (g.turn b (inv y) x l)) j.from
      (alike_ends S (label b) (label x) (label a) (inv y) (g.labelled b (inv y) x l) (labelled_turn S label a y b j.label_in)))
      (joined_grows s a y b)
