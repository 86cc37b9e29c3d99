-- A fold, word by word, and what it gives when nothing is pending (`specs/Engine`).
--   parts_read       : the two readings of `taken_in` part the word
--   taken_settled    : a word of H taken in; drain_settled : and drained
--   folded_settled   : so each word of a list
--   between_leads    : when nothing is pending, what stands between roots is a cell
--   settled_reached, settled_two, settled_lettered : what numbering needs of the cells
--   settled_sound, settled_exact : the cells accept words of H alone, and exactly the members of the words taken in
-- Assumes nothing.
use mathlib.Core.Path.{◌≡◌, refl, sym, ◌∙◌, ap, subst, subst₂}
use mathlib.Core.Logic.{⊎_elim}
use mathlib.Core.List.{List, [], ◌∷◌, ◌++◌}
use Prim.Native.Nat.{ℕ, suc, ◌+◌, ◌≤◌, ◌<◌}
use native.Mathlib.Omega.{arith}
use lib.ListN.{get_or}
use Rattle.theory.specs.Words.{inv, put, reduced_by, undoes, reduced, inverse_of, Member}
use Rattle.theory.specs.Letters.{StandsIn, AllIn}
use Rattle.theory.specs.Tables.{absent, Cells, Leads, Reads, Accepts}
use Rattle.theory.specs.Graphs.{new_points, start_points}
use Rattle.theory.specs.Subgroups.{AcceptsExactly}
use Rattle.theory.proofs.WordLaws.{by_test, letters, reduced_none, reduced_idem, inverse_append, inverse_inverse, member_listed}
use Rattle.theory.proofs.ReadLaws.{Subgroup, member_subgroup, labels_sound, loops_accepted}
use Rattle.theory.proofs.DistinctLaws.{get_or_mem, mem_get_or}
use Rattle.theory.proofs.MemLaws.{◌∈◌, here, further, mem-cons, mem-none, mem-append, mem-left, mem-right}
use Rattle.theory.proofs.OneTable.{leads_here}
use Rattle.engine.specs.Numbering.{Reached, Two, Lettered}
use Rattle.engine.specs.Engine.{State, front, behind, taken_in, drained, start, folded}
use Rattle.engine.specs.Points.{Between}
use Rattle.engine.specs.Stages.{Settled}
use Rattle.engine.proofs.DrainLaws.{drained_settles, drained_empty, drained_roomy}
use Rattle.engine.proofs.TakeLaws.{
  ahead_reads,
  start_settled,
  stage_inverse,
  settled_fewer,
  settled_grows,
  Read,
  chained_settled,
  chained_made,
  part_points,
}

-- ── One word ──

-- the letters of a reduction are letters of the word
pub all_reduced : (ys w : List ℕ) → AllIn ys w → AllIn ys (reduced w)
unfolding reduced_by put
all_reduced ys [] h = tt
all_reduced ys (y ∷ w) h = more (reduced w) (all_reduced ys w h.1)
  where
    more : (r : List ℕ) → AllIn ys r → AllIn ys (put undoes y r)
    more [] a = (h.0, tt)
    more (x ∷ r) a = by_test (undoes y x) (λ e. rw e a.1) (λ e. rw e (h.0, a))

-- what was read backward
abbrev pub backward : (c : Cells) (w : List ℕ) → List ℕ
backward c w = (ahead_reads c 0 (inverse_of (front c w).rest)).read

-- the two readings part the word
pub parts_read : (c : Cells) (w : List ℕ)
    → Read c w (ahead_reads c 0 w).read (inverse_of (behind c w).rest) (backward c w) (front c w).point (behind c w).point
parts_read c w =
    let p = ahead_reads c 0 w in
    let q = ahead_reads c 0 (inverse_of (front c w).rest) in
    record {
      joins =
          p.joins
          ∙ ap (λ l. p.read ++ l)
          (sym (inverse_inverse letters (front c w).rest)
          ∙ ap inverse_of q.joins
          ∙ inverse_append letters q.read (behind c w).rest);
      first = p.reads;
      last = q.reads;
    }

-- the middle needs no more new points than the word
pub middle_points : (c : Cells) (w : List ℕ) → new_points (inverse_of (behind c w).rest) ≤ new_points w
middle_points c w =
    part_points w (ahead_reads c 0 w).read (inverse_of (behind c w).rest) (inverse_of (backward c w)) (parts_read c w).joins

-- what a fold asks of a word: it is in H, and its letters are of ys
pub record Fits (H : List ℕ → Type 0) (ys w : List ℕ) : Type 0 where
  pub member : H w
  pub all : AllIn ys w

points_some : (ws : List (List ℕ)) → 1 ≤ start_points ws
unfolding start_points
points_some [] = omega arith
points_some (w ∷ ws) = omega (arith, points_some ws)

module _ {H : List ℕ → Type 0} (S : Subgroup H) {ys : List ℕ} (closed : (z : ℕ) → StandsIn ys z → StandsIn ys (inv z)) where
  module _ {us : List (List ℕ)} {s : State} (k : Settled H ys us s) (q : List ℕ) (fit : Fits H ys q)
      (room : s.made + new_points (reduced q) ≤ absent) where
    member : H (reduced q)
    member = S.cong q (reduced q) (sym (reduced_idem letters q)) fit.member

    -- a word taken in
    pub taken_settled : Settled H ys (q ∷ us) (taken_in s (reduced q))
    unfolding taken_in
    taken_settled =
        chained_settled S closed k q (reduced q) _ _ _ _ _ refl (parts_read s.cells (reduced q)) (reduced_none letters q)
        (all_reduced ys q fit.all) member room

    -- with at most a new point for each letter but one
    pub taken_made : (taken_in s (reduced q)).made ≤ s.made + new_points (reduced q)
    unfolding taken_in
    taken_made =
        chained_made S closed k q (reduced q) _ _ _ _ _ refl (parts_read s.cells (reduced q)) (reduced_none letters q)
        (all_reduced ys q fit.all) member room

  -- drained
  pub drain_settled : {us : List (List ℕ)} {s : State} → Settled H ys us s → Settled H ys us (drained ys s)
  drain_settled {us} {s} k =
      let d = drained_settles S k.stage in
      settled_grows k d.stage d.grows d.made (drained_roomy S k.stage k.roomy)

  -- ── A list of words ──

  -- each word of a list taken in and drained: all settled, nothing pending, and no more points made than start points
  pub folded_settled : (us : List (List ℕ)) (s : State) (ws : List (List ℕ)) → Settled H ys us s → s.pending ≡ []
      → ((w : List ℕ) → w ∈ ws → Fits H ys w) → s.made + start_points ws ≤ suc absent
      → Settled H ys (ws ++ us) (folded ys s ws)
      × ((folded ys s ws).pending ≡ [])
      × (suc (folded ys s ws).made ≤ s.made + start_points ws)
  unfolding folded start_points
  folded_settled us s [] k e f r = (k, e, omega arith)
  folded_settled us s (w ∷ ws) k e f r =
      let m : s.made + new_points (reduced w) ≤ absent = omega (arith, points_some ws) in
      let t = taken_settled k w (f w (here refl)) m in
      let n = taken_made k w (f w (here refl)) m in
      let d = (drained_settles S t.stage).made in
      let q = folded_settled (w ∷ us) (drained ys (taken_in s (reduced w))) ws (drain_settled t)
      (drained_empty S t.stage t.roomy) (λ v i. f v (further i)) (omega arith) in
      (settled_fewer (moved_front w ws us) q.0, q.1, omega (arith, q.2))
    where
      moved_front : (w : List ℕ) (ws us : List (List ℕ)) (v : List ℕ) → v ∈ (w ∷ (ws ++ us)) → v ∈ (ws ++ (w ∷ us))
      moved_front w ws us v i =
          ⊎_elim (λ q. mem-right ws (here q))
          (λ j. ⊎_elim (λ a. mem-left (w ∷ us) a) (λ b. mem-right ws (further b)) (mem-append ws j)) (mem-cons i)

-- ── Nothing pending ──

module _ {H : List ℕ → Type 0} {ys : List ℕ} {us : List (List ℕ)} {s : State} (k : Settled H ys us s)
    (empty : s.pending ≡ []) where
  -- a point with a cell is a root
  cell_root : (v y x : ℕ) → Leads s.cells v y x → s.root v ≡ v
  cell_root v y x l = ⊎_elim (λ e. e) (λ m. absurd (mem-none (subst (λ p. v ∈ p) empty m))) (k.stage.live v y x l)

  -- what stands between roots is a cell
  pub between_leads : (p y q : ℕ) → Between s p y q → Leads s.cells p y q
  between_leads p y q b =
      let l = b.2 in
      subst₂ (λ a d. Leads s.cells a y d) (sym (cell_root b.0 y b.1 l) ∙ b.3)
      (sym (cell_root b.1 (inv y) b.0 (k.stage.turn b.0 y b.1 l)) ∙ b.4) l

  -- and words read between roots read by cells alone
  pub between_reads : (p : ℕ) (w : List ℕ) (q : ℕ) → Reads (Between s) p w q → Reads (Leads s.cells) p w q
  between_reads p [] q r = r
  between_reads p (y ∷ w) q r = (r.0, between_leads p y r.0 r.1, between_reads r.0 w q r.2)

  -- each row with a cell is reached from the base
  pub settled_reached : Reached s.cells
  settled_reached v y n =
      let r = k.reached v (k.stage.within v y (s.cells v y) (refl, n)) in
      let e = cell_root v y (s.cells v y) (refl, n) in
      (r.0, subst (Reads (Leads s.cells) 0 r.0) e (between_reads 0 r.0 (s.root v) r.1))

  -- and has two letters, if it is not the base's
  pub settled_two : Two s.cells
  settled_two v y z n =
      let r = k.two v (omega arith) (k.stage.within v y (s.cells v y) (refl, n)) in
      let e = cell_root v y (s.cells v y) (refl, n) in (
        r.0,
        r.1,
        r.4,
        cell r.0 r.2 e r.5,
        cell r.1 r.3 e r.6,
      )
    where
      cell : (a p : ℕ) → s.root v ≡ v → Between s (s.root v) a p → s.cells v a ≡ absent → ⊥
      cell a p e b = leads_here s.cells v a p (subst (λ u. Leads s.cells u a p) e (between_leads (s.root v) a p b))

  -- each word taken in is accepted
  pub settled_accepts : (w : List ℕ) → w ∈ us → Accepts s.cells w
  settled_accepts w i = between_reads 0 (reduced w) 0 (k.loops w i)

-- only letters of ys have cells
pub settled_lettered : {H : List ℕ → Type 0} {ys : List ℕ} {us : List (List ℕ)} {s : State} → Settled H ys us s
    → Lettered s.cells ys
settled_lettered {s = s} k v y n = k.stage.lettered v y (s.cells v y) (refl, n)

-- only points made have cells
pub settled_rows : {H : List ℕ → Type 0} {ys : List ℕ} {us : List (List ℕ)} {s : State} → Settled H ys us s
    → (v y : ℕ) → (s.cells v y ≡ absent → ⊥) → v < s.made
settled_rows {s = s} k v y n = k.stage.within v y (s.cells v y) (refl, n)

-- accepted words are in H, at any time
pub settled_sound : {H : List ℕ → Type 0} {ys : List ℕ} {us : List (List ℕ)} {s : State} → Subgroup H → Settled H ys us s
    → (q : List ℕ) → Accepts s.cells q → H q
settled_sound S k q r =
    S.cong (reduced q) q (reduced_idem letters q) (labels_sound S k.label k.stage.labelled k.stage.base (reduced q) r)

-- where the words taken in generate H and nothing is pending, the cells accept exactly the members
pub settled_exact : (ws : List (List ℕ)) {ys : List ℕ} {s : State} → Settled (Member ws) ys ws s → s.pending ≡ []
    → AcceptsExactly s.cells ws
settled_exact ws {ys} {s} k e = (
  λ q m. loops_accepted (stage_inverse (member_subgroup ws) k.stage) ws
      (λ i h. settled_accepts k e (get_or ws i []) (mem_get_or ws i [] h)) q m,
  λ q r. settled_sound (member_subgroup ws) k q r,
)

-- ── A whole fold ──

-- from the base alone, each word of ws taken in: the cells accept exactly the members, with no more points than start points
pub folded_exact : (ys : List ℕ) → ((z : ℕ) → StandsIn ys z → StandsIn ys (inv z)) → (ws : List (List ℕ))
    → ((w : List ℕ) → w ∈ ws → AllIn ys w) → start_points ws ≤ absent
    → Settled (Member ws) ys ws (folded ys start ws)
    × ((folded ys start ws).pending ≡ [])
    × ((folded ys start ws).made ≤ start_points ws)
    × AcceptsExactly (folded ys start ws).cells ws
unfolding start
folded_exact ys closed ws all room =
    let S = member_subgroup ws in
    let f = folded_settled S closed [] start ws (start_settled (Member ws) S ys) refl fits (omega arith) in
    let k = settled_fewer (λ w i. mem-left [] i) f.0 in
    (k, f.1, omega (arith, f.2), settled_exact ws k f.1)
  where
    fits : (w : List ℕ) → w ∈ ws → Fits (Member ws) ys w
    fits w i =
        let p = get_or_mem [] i in
        record { member = subst (Member ws) p.2 (member_listed ws p.0 p.1); all = all w i }
