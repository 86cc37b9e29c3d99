-- Edges in lent cells on plain values: what each operation's parts ask and leave.
--   cell_there, put_here : where a cell of the room stands
--   other_in, back_in, made_in, holds_made : cells of the room, also once the table has changed, and what they hold
--   work_free .. work_edge : the work cells, by the cases of the model
--   link_free, link_taken, link_back : the three outcomes of `link`
--   move_usable, move_ends, move_left, move_none : the parts of `move_edge`
-- Assumes nothing.
use mathlib.Core.Path.{◌≡◌, sym, ◌∙◌, ap, subst}
use mathlib.Core.Logic.{by_cases}
use mathlib.Core.Bool.{cond, ◌&&◌}
use mathlib.Core.List.{List}
use Prim.Native.Nat.{ℕ, ◌+◌, ◌*◌, ◌<◌}
use native.Mathlib.Decide.{ℕ_discrete}
use native.Mathlib.Omega.{arith}
use lib.Dec.{eqb}
use lib.ListN.{length, get_or, set}
use borrow.Author.Tests.{eq-eqb, ne_eqb}
use Rattle.theory.specs.Words.{inv}
use Rattle.theory.specs.Tables.{absent, Cells, Leads, cell}
use Rattle.theory.proofs.TableLaws.{cell_here}
use Rattle.engine.specs.Cells.{put, linked, unlinked}
use Rattle.engine.specs.Engine.{State, with_cells, united, joined, moved, far_end}
use Rattle.engine.specs.Work.{Holds}
use Rattle.engine.proofs.CellLaws.{unlinked_leads}
use Rattle.engine.proofs.GrowLaws.{joined_free, joined_taken, joined_back}
use Rattle.engine.proofs.MoveLaws.{moved_none, moved_edge_lem}
use Rattle.engine.proofs.HoldLaws.{holds_first, holds_set, holds_then, holds_as}
use Rattle.rooms.specs.declared.Room.{Room}
use Rattle.rooms.specs.WorkCells.{united_work, joined_work, moved_work}
use Rattle.rooms.specs.Rooms.{state_in, Usable, After}
use Rattle.rooms.proofs.RoomLaws.{left_first, left_cells, left_as, left_then, left_lent}
use Rattle.links.specs.Links.{InTable, Ends}

module _ {r : Room} {t : List ℕ} {v y : ℕ} (h : InTable r t v y) where
  pub cell_there : get_or t (v * (2 * r.n) + y) 0 ≡ cell r.n r.rows t v y
  cell_there = cell_here r.n r.rows t v y h.row h.letter h.lent

  pub put_here : (x : ℕ) {after : List ℕ} → after ≡ set t (v * (2 * r.n) + y) x
      → Holds r.n r.rows t (put (cell r.n r.rows t) v y x) after
  put_here x e =
      subst (Holds r.n r.rows t (put (cell r.n r.rows t) v y x)) (sym e)
      (holds_set (holds_first r.n r.rows t) v y x h.row h.letter h.lent)

  -- the cell at another point and letter
  pub other_in : {after : List ℕ} → length after ≡ length t → (u z : ℕ) → u < r.rows → z < 2 * r.n → InTable r after u z
  other_in e u z hu hz = record { most = h.most; row = hu; letter = hz; lent = omega (arith, e, h.lent) }

  -- and by the inverse of the letter, which is a letter
  pub back_in : {after : List ℕ} {u z : ℕ} → length after ≡ length t → u < r.rows → z ≡ inv y → InTable r after u z
  unfolding inv
  back_in {u = u} {z = z} e hu d = other_in e u z hu (omega (arith, d, h.letter))

-- stores one after another
pub put_then : {n R : ℕ} {old mid after : List ℕ} {c : Cells} (v y x : ℕ) → Holds n R old c mid
    → Holds n R mid (put (cell n R mid) v y x) after → Holds n R old (put c v y x) after
unfolding put
put_then {n} {R} {old} {mid} {after} {c} v y x h k =
    holds_as (λ u z. ap (cond (eqb u v && eqb z y) x) (h.cells u z)) (holds_then h k)

-- both cells of an edge
pub edge_put : {n R : ℕ} {old mid after : List ℕ} (a y b : ℕ) {back : ℕ} → back ≡ inv y → Holds n R old (put (cell n R old) a y b) mid
    → Holds n R mid (put (cell n R mid) b back a) after → Holds n R old (linked (cell n R old) a y b) after
unfolding linked
edge_put {n} {R} {old} {mid} {after} a y b e h k =
    put_then b (inv y) a h (subst (λ z. Holds n R mid (put (cell n R mid) b z a) after) e k)

-- both cells of an edge emptied
pub edge_gone : {n R : ℕ} {old mid after : List ℕ} (v y : ℕ) {q back : ℕ} → q ≡ cell n R old v y → back ≡ inv y
    → Holds n R old (put (cell n R old) q back absent) mid → Holds n R mid (put (cell n R mid) v y absent) after
    → Holds n R old (unlinked (cell n R old) v y) after
unfolding unlinked
edge_gone {n} {R} {old} {mid} {after} v y {q} {back} e d h k =
    put_then v y absent
    (subst (λ z. Holds n R old (put (cell n R old) (cell n R old v y) z absent) mid) d
    (subst (λ p. Holds n R old (put (cell n R old) p back absent) mid) e h)) k

-- ── The work cells, by the cases of the model ──

work_free : (R : ℕ) (s : State) (w : List ℕ) (a y b : ℕ) → s.cells a y ≡ absent → s.cells b (inv y) ≡ absent → joined_work R s w a y b ≡ w
unfolding joined_work
work_free R s w a y b e d = rw (eq-eqb (s.cells a y) absent e, eq-eqb (s.cells b (inv y)) absent d)

work_taken : (R : ℕ) (s : State) (w : List ℕ) (a y b x : ℕ) → Leads s.cells a y x → joined_work R s w a y b ≡ united_work R s w x b
unfolding joined_work
work_taken R s w a y b x l = rw (l.0, ne_eqb x absent l.1)

work_back : (R : ℕ) (s : State) (w : List ℕ) (a y b x : ℕ) → s.cells a y ≡ absent → Leads s.cells b (inv y) x
    → joined_work R s w a y b ≡ united_work R s w x a
unfolding joined_work
work_back R s w a y b x e l = rw (eq-eqb (s.cells a y) absent e, l.0, ne_eqb x absent l.1)

work_none : (R : ℕ) (s : State) (w : List ℕ) (v u y : ℕ) → s.cells v y ≡ absent → moved_work R s w v u y ≡ w
unfolding moved_work
work_none R s w v u y e = rw (eq-eqb (s.cells v y) absent e)

work_edge : (R : ℕ) (s : State) (w : List ℕ) (v u y q : ℕ) → Leads s.cells v y q
    → moved_work R s w v u y ≡ joined_work R (with_cells s (unlinked s.cells v y)) w u y (far_end v u q)
unfolding moved_work
work_edge R s w v u y q l = rw (l.0, ne_eqb q absent l.1)

-- ── Joining ──

module _ {r : Room} {table work : List ℕ} {count : ℕ} (h : Usable r table work count) where
  -- a cell of a point made
  pub made_in : (v y : ℕ) → v < r.made → y < 2 * r.n → InTable r table v y
  made_in v y hv hy =
      record { most = h.lent.most; row = omega (arith, h.lent.inside); letter = hy; lent = h.lent.lent }

  -- what it holds is absent or a point made
  pub holds_made : (v y x : ℕ) → x ≡ cell r.n r.rows table v y → (x ≡ absent → ⊥) → x < r.made
  holds_made v y x e n = h.named v y x (sym e, n)

  module _ {a y b : ℕ} (k : Ends r a y b) where
    abbrev s : State
    s = state_in r table work count

    abbrev Joins : List ℕ → List ℕ → ℕ → Type 0
    Joins table' work' m = After r (λ t. joined t a y b) (λ t w. joined_work r.rows t w a y b) table work count table' work' m

    -- both cells free
    pub link_free : {x z back : ℕ} {after : List ℕ} → x ≡ cell r.n r.rows table a y → x ≡ absent → back ≡ inv y
        → z ≡ cell r.n r.rows table b back → z ≡ absent
        → Holds r.n r.rows table (linked (cell r.n r.rows table) a y b) after → Joins after work count
    link_free {x} {z} {back} e d f g i j =
        left_as (sym (joined_free s a y b here there)) (sym (work_free r.rows s work a y b here there)) (left_cells h.lent count j)
      where
        here : s.cells a y ≡ absent
        here = sym e ∙ d

        there : s.cells b (inv y) ≡ absent
        there = ap (λ l. cell r.n r.rows table b l) (sym f) ∙ sym g ∙ i

    -- the cell at a taken
    pub link_taken : {x m : ℕ} {table' after : List ℕ} → x ≡ cell r.n r.rows table a y → (x ≡ absent → ⊥)
        → After r (λ t. united t x b) (λ t w. united_work r.rows t w x b) table work count table' after m → Joins table' after m
    link_taken {x} e n u =
        left_as (sym (joined_taken s a y b x (sym e, n))) (sym (work_taken r.rows s work a y b x (sym e, n)))
        u

    -- the cell at b alone taken
    pub link_back : {x z back m : ℕ} {table' after : List ℕ} → x ≡ cell r.n r.rows table a y → x ≡ absent → back ≡ inv y
        → z ≡ cell r.n r.rows table b back → (z ≡ absent → ⊥)
        → After r (λ t. united t z a) (λ t w. united_work r.rows t w z a) table work count table' after m → Joins table' after m
    link_back {x} {z} {back} e d f g n u =
        left_as (sym (joined_back s a y b z (sym e ∙ d) there)) (sym (work_back r.rows s work a y b z (sym e ∙ d) there))
        u
      where
        there : Leads s.cells b (inv y) z
        there = (ap (λ l. cell r.n r.rows table b l) (sym f) ∙ sym g, n)

-- ── Moving ──

module _ {r : Room} {table work : List ℕ} {count : ℕ} (h : Usable r table work count) {v y u : ℕ} (k : Ends r v y u) where
  abbrev old : State
  old = state_in r table work count

  abbrev Moves : List ℕ → List ℕ → ℕ → Type 0
  Moves table' work' m = After r (λ t. moved t v u y) (λ t w. moved_work r.rows t w v u y) table work count table' work' m

  module _ {q : ℕ} (e : q ≡ cell r.n r.rows table v y) (n : q ≡ absent → ⊥) {after : List ℕ}
      (g : Holds r.n r.rows table (unlinked (cell r.n r.rows table) v y) after) where
    -- the cells are usable without the edge
    pub move_usable : Usable r after work count
    move_usable =
        record {
          lent = left_lent h.lent (left_cells h.lent count g);
          named = λ p z x l.
              h.named p z x (unlinked_leads (cell r.n r.rows table) v y p z x (sym (g.cells p z) ∙ l.0, l.1)).0;
          spare = h.spare;
        }

    pub move_ends : {x : ℕ} → x ≡ far_end v u q → Ends r u y x
    move_ends {x} f =
        record {
          from = k.to;
          to = subst (λ z. z < r.made) (sym f) far;
          letter = k.letter;
        }
      where
        far : far_end v u q < r.made
        far =
            by_cases (ℕ_discrete q v) (λ d. rw (eq-eqb q v d) k.to) (λ d. rw (ne_eqb q v d) (holds_made h v y q e n))

    pub move_left : {x m : ℕ} {table' work' : List ℕ} → x ≡ far_end v u q
        → After r (λ t. joined t u y x) (λ t w. joined_work r.rows t w u y x) after work count table' work' m
        → Moves table' work' m
    move_left {x} f j =
        left_as (ap (joined bare u y) f ∙ sym (moved_edge_lem old v u y q (sym e, n)))
        (ap (joined_work r.rows bare work u y) f ∙ sym (work_edge r.rows old work v u y q (sym e, n)))
        (left_then (left_cells h.lent count g) (λ t. joined t u y x) (λ t w. joined_work r.rows t w u y x) j)
      where
        -- the state without the edge
        bare : State
        bare = with_cells old (unlinked old.cells v y)

  pub move_none : {q : ℕ} → q ≡ cell r.n r.rows table v y → q ≡ absent → Moves table work count
  move_none e d =
      left_as (sym (moved_none old v u y (sym e ∙ d))) (sym (work_none r.rows old work v u y (sym e ∙ d))) (left_first h.lent count)
