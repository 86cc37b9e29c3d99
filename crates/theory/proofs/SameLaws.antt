-- Graphs that differ in the names of their points alone (000, propositions 5.14 and 5.16).
--   ReadsHome E b q  <-> the reduced q leads from b back to b
--   Core P E b       <-> E is an inverse deterministic graph with points P, all reached from b, with ways home
--   Same P E b Q F d <-> the two graphs are the same but for names: maps both ways that keep base and steps
--   same_of_home      : two core graphs that read the same words home are the same but for names
-- A point goes to the point that its word leads to in the other graph; which of its words is taken does not matter.
-- Assumes nothing.
use mathlib.Core.Path.{◌≡◌, refl, sym, ◌∙◌, ap, subst}
use mathlib.Core.Logic.{◌↔◌}
use mathlib.Core.List.{List, [], ◌∷◌, ◌++◌, append_assoc}
use Prim.Native.Nat.{ℕ}
use Rattle.theory.specs.Words.{inv, reduced_by, put, reduced, Reduced, inverse_of}
use Rattle.theory.specs.Tables.{Reads}
pub use Rattle.theory.specs.Subgroups.{Same}
use Rattle.theory.proofs.WordLaws.{letters, reduced_none, reduced_fixed, reduced_idem, append_cong}
use Rattle.theory.proofs.WordLaws.{inverse_left, gone_between}
use Rattle.theory.proofs.ReadLaws.{Steps, Inverse, reads_append, reads_back, reads_reduced, ends_loop, loop_ends}
use Rattle.theory.proofs.HomeLaws.{Homeward, same_words}

abbrev pub ReadsHome : Steps → ℕ → List ℕ → Type 0
ReadsHome E b q = Reads E b (reduced q) b

pub record Core (P : ℕ → Type 0) (E : Steps) (b : ℕ) : Type 0 where
  pub inverse : Inverse E
  pub home : Homeward E b
  pub decide : (p : ℕ) → Dec (P p)
  pub base_in : P b
  pub ends : (v y x : ℕ) → E v y x → P x
  pub reach : (p : ℕ) → P p → (u : List ℕ) × Reads E b u p

-- what a word reaches is a point
pub reads_in : (E : Steps) (P : ℕ → Type 0) → ((v y x : ℕ) → E v y x → P x)
    → (v : ℕ) (w : List ℕ) (x : ℕ) → P v → Reads E v w x → P x
reads_in E P f v [] x h r = subst P r h
reads_in E P f v (y ∷ w) x h r = reads_in E P f r.0 w x (f v y r.0 r.1) r.2

-- both ends of a step are points
pub core_ends : {P : ℕ → Type 0} {E : Steps} {b : ℕ} → Core P E b → (v y x : ℕ) → E v y x → P v × P x
core_ends C v y x e = (C.ends x (inv y) v (C.inverse.back v y x e), C.ends v y x e)

-- the same graphs, looked at from the other
pub same_sym : {P : ℕ → Type 0} {E : Steps} {b : ℕ} {Q : ℕ → Type 0} {F : Steps} {d : ℕ} → P b → Same P E b Q F d
    → Same Q F d P E b
same_sym {b = b} h S =
    record {
      onto = S.back;
      back = S.onto;
      base = ap S.back (sym S.base) ∙ S.back_onto b h;
      lands = S.returns;
      returns = S.lands;
      back_onto = S.onto_back;
      onto_back = S.back_onto;
      steps = S.steps_back;
      steps_back = S.steps;
    }

-- a letter leads from the end of a word to the end of the word with the letter, reduced
last_step : {F : Steps} → Inverse F → (d : ℕ) (u : List ℕ) (q y z : ℕ) → Reads F d u q
    → Reads F d (reduced (u ++ (y ∷ []))) z → F q y z
unfolding reduced_by put
last_step {F} I d u q y z r s =
    only (subst (λ w. Reads F q w z) left
    (reads_reduced I q (inverse_of u ++ reduced (u ++ (y ∷ []))) z
    (reads_append F q (inverse_of u) d (reduced (u ++ (y ∷ []))) z (reads_back I d u q r) s)))
  where
    only : Reads F q (y ∷ []) z → F q y z
    only t = subst (F q y) t.2 t.1

    -- back along u, then along u and y: only y is left
    left : reduced (inverse_of u ++ reduced (u ++ (y ∷ []))) ≡ y ∷ []
    left =
        append_cong letters (inverse_of u) (inverse_of u) (reduced (u ++ (y ∷ []))) (u ++ (y ∷ [])) refl
        (reduced_idem letters (u ++ (y ∷ [])))
        ∙ ap reduced (sym (append_assoc (inverse_of u) u (y ∷ [])))
        ∙ gone_between letters [] (inverse_of u ++ u) (y ∷ []) (inverse_left letters u)

-- one direction: where the reduced loops of the first graph are loops of the second
module _ {P : ℕ → Type 0} {E : Steps} {b : ℕ} {Q : ℕ → Type 0} {F : Steps} {d : ℕ} (C : Core P E b) (D : Core Q F d)
    (loops : (r : List ℕ) → Reduced r → Reads E b r b → Reads F d r d) where
  -- a point's word leads somewhere in the second graph
  partner : (p : ℕ) → P p → (q : ℕ) × (u : List ℕ) × Reads E b u p × Reads F d u q
  partner p m =
      let t = C.reach p m in
      let r = reads_reduced C.inverse b t.0 p t.1 in
      let s = same_words C.home F d loops (reduced t.0) p (reduced_none letters t.0) r in
      (s.0, reduced t.0, r, s.1)

  image_by : (p : ℕ) → Dec (P p) → ℕ
  image_by p (yes m) = (partner p m).0
  image_by p (no n) = d

  -- where a point's word leads in the second graph
  image : ℕ → ℕ
  image p = image_by p (C.decide p)

  image_word : (p : ℕ) → P p → (u : List ℕ) × Reads E b u p × Reads F d u (image p)
  unfolding image image_by
  image_word p m = go (C.decide p)
    where
      go : (o : Dec (P p)) → (u : List ℕ) × Reads E b u p × Reads F d u (image_by p o)
      go (yes k) = let t = partner p k in (t.1, t.2, t.3)
      go (no n) = absurd (n m)

  -- words that end together in the first graph end together in the second
  match : (u w : List ℕ) (p q z : ℕ) → Reads E b u p → Reads F d u q → Reads E b w p → Reads F d w z → q ≡ z
  match u w p q z r s r' s' =
      loop_ends D.inverse d u w q z s s'
      (loops (reduced (u ++ inverse_of w)) (reduced_none letters (u ++ inverse_of w))
      (ends_loop C.inverse b u w p p r r' refl))

  image_in : (p : ℕ) → P p → Q (image p)
  image_in p m = let t = image_word p m in reads_in F Q D.ends d t.0 (image p) D.base_in t.2

  -- what a letter reads in the first graph, it reads between the images in the second
  image_step : (p y x : ℕ) → E p y x → F (image p) y (image x)
  image_step p y x e =
      let t = image_word p (core_ends C p y x e).0 in
      let o = image_word x (core_ends C p y x e).1 in
      let w = t.0 ++ (y ∷ []) in
      let r = reads_reduced C.inverse b w x (reads_append E b t.0 p (y ∷ []) x t.1 (x, e, refl)) in
      let s = same_words C.home F d loops (reduced w) x (reduced_none letters w) r in
      last_step D.inverse d t.0 (image p) y (image x) t.2
      (subst (Reads F d (reduced w)) (match (reduced w) o.0 x s.0 (image x) r s.1 o.1 o.2) s.1)

-- there and back
image_image : {P : ℕ → Type 0} {E : Steps} {b : ℕ} {Q : ℕ → Type 0} {F : Steps} {d : ℕ}
    (C : Core P E b) (D : Core Q F d)
    (to : (r : List ℕ) → Reduced r → Reads E b r b → Reads F d r d)
    (from : (r : List ℕ) → Reduced r → Reads F d r d → Reads E b r b)
    → (p : ℕ) → P p → image D C from (image C D to p) ≡ p
image_image C D to from p m =
    let t = image_word C D to p m in
    let q = image C D to p in
    let s = image_word D C from q (image_in C D to p m) in
    match D C from s.0 t.0 q (image D C from q) p s.1 s.2 t.2 t.1

-- two core graphs that read the same words home are the same but for names
pub same_of_home : {P : ℕ → Type 0} {E : Steps} {b : ℕ} {Q : ℕ → Type 0} {F : Steps} {d : ℕ} → Core P E b → Core Q F d
    → ((q : List ℕ) → ReadsHome E b q ↔ ReadsHome F d q) → Same P E b Q F d
same_of_home {E = E} {b = b} {F = F} {d = d} C D home =
    record {
      onto = image C D to;
      back = image D C from;
      base = let t = image_word C D to b C.base_in in
          match C D to t.0 [] b (image C D to b) d t.1 t.2 refl refl;
      lands = image_in C D to;
      returns = image_in D C from;
      back_onto = image_image C D to from;
      onto_back = image_image D C from to;
      steps = image_step C D to;
      steps_back = image_step D C from;
    }
  where
    to : (r : List ℕ) → Reduced r → Reads E b r b → Reads F d r d
    to r h = subst (λ w. Reads E b w b → Reads F d w d) (reduced_fixed letters r h) (home r).0

    from : (r : List ℕ) → Reduced r → Reads F d r d → Reads E b r b
    from r h = subst (λ w. Reads F d w d → Reads E b w b) (reduced_fixed letters r h) (home r).1
