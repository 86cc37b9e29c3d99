-- A chain of new points on plain values.
--   part_cons, part_none : the first letter of a part of the word, and none
--   grow_usable, grow_left : a point made, and joined to the tip
--   close_none, close_letter : the end of a chain
--   Head : what is left of a chain, from the tip on
-- Assumes nothing.
use mathlib.Core.Path.{◌≡◌, refl, sym, ◌∙◌, ap, subst, subst₂, fun_ext}
use mathlib.Core.List.{List, [], ◌∷◌}
use Prim.Native.Nat.{ℕ, suc, ◌+◌, ◌*◌, ◌≤◌, ◌<◌}
use native.Mathlib.Numerals.{add-one}
use native.Mathlib.Omega.{arith}
use lib.ListN.{length, get_or, take, drop, set, length-set, length-drop, drop_of_length-le}
use lib.Seq.{drop-cons, drop-set-lt, get_or-drop, get_or-take, get_or-set_other, length-take-le}
use Rattle.theory.specs.Letters.{usual, StandsIn, AllIn}
use Rattle.theory.specs.Tables.{cell}
use Rattle.theory.proofs.TableLaws.{length_usual, get_or_usual}
use Rattle.engine.specs.Roots.{Falls}
use Rattle.engine.specs.Engine.{State, state_of, united, joined, grown, chained}
use Rattle.engine.specs.Stages.{Chainable, Roomy}
use Rattle.engine.specs.Work.{forward_of, pending_of}
use Rattle.engine.proofs.WorkLaws.{forward_grown}
use Rattle.engine.proofs.StageLaws.{joined_kept}
use Rattle.engine.proofs.ChainLaws.{stage₁, grown_weight, chain_joinable, chain_next}
use Rattle.engine.proofs.FoldedTable.{usual_closed}
use Rattle.rooms.specs.declared.Room.{Room}
use Rattle.rooms.specs.WorkCells.{united_work, joined_work, chained_work}
use Rattle.rooms.specs.Rooms.{state_in, with_made, Lent, Usable, Left, After}
use Rattle.rooms.proofs.RoomLaws.{all_words, plain_stage, left_as, left_then, left_after, fit_grown, fit_usable}
use Rattle.links.specs.Links.{Ends}
use Rattle.takes.specs.Chains.{word_in, part, Growing, GrownIn, ChainFits, chained_by, chained_cells, ClosedIn}

-- ── Parts of a word ──

pub part_cons : (w : List ℕ) (i end : ℕ) → i < end → end ≤ length w → part w i end ≡ get_or w i 0 ∷ part w (suc i) end
part_cons w i end h l =
    drop-cons (take end w) i 0 (omega (arith, length-take-le end w l))
    ∙ ap (λ y. y ∷ part w (suc i) end) (get_or-take end w i 0 h)

pub part_none : (w : List ℕ) (i : ℕ) → i ≤ length w → part w i i ≡ []
part_none w i l = drop_of_length-le (take i w) {i = i} (omega (arith, length-take-le i w l))

-- a letter of n generators
pub usual_below : (n y : ℕ) → StandsIn (usual n) y → y < 2 * n
usual_below n y s = omega (arith, s.1, s.2, length_usual n, get_or_usual n s.0 (omega (arith, s.1, length_usual n)))

-- the word's cells are there
pub word_long : {r : Room} {table work : List ℕ} → Lent r table work → r.rows ≤ length (word_in r work)
word_long {r} {table} {work} h = omega (arith, length-drop (2 * r.rows) work, h.room)

-- the i-th of them
pub word_at : (r : Room) (work : List ℕ) (i : ℕ) → get_or (word_in r work) i 0 ≡ get_or work (2 * r.rows + i) 0
word_at r work i = get_or-drop (2 * r.rows) work i 0

-- ── A new point ──

module _ {r : Room} {table work : List ℕ} {count at i : ℕ} (h : Growing r table work count at i) where
  abbrev next : Room
  next = with_made r (r.made + 1)

  abbrev work₁ : List ℕ
  work₁ = set work r.made r.made

  abbrev s : State
  s = state_in r table work count

  forward_same : forward_of work₁ (r.made + 1) ≡ forward_of work r.made
  forward_same =
      ap (forward_of work₁) (add-one r.made)
      ∙ fun_ext (forward_grown work r.made (omega (arith, h.room, h.fit.lent.room)))

  grown_left : Left next table work (grown s) work₁ table work₁ count
  grown_left =
      record {
        state = state;
        cells = refl;
        falls = subst Falls (sym forward_same) h.fit.lent.falls;
        table_same = refl;
        table_rest = refl;
        work_same = simp length-set refl;
        work_rest = drop-set-lt (2 * r.rows) work r.made r.made (omega (arith, h.room));
      }
    where
      state : state_in next table work₁ count ≡ grown s
      state =
          ap (λ f. state_of (cell r.n r.rows table) f (pending_of (drop r.rows work₁) count) (r.made + 1)) forward_same
          ∙ ap (λ l. state_of (cell r.n r.rows table) (forward_of work r.made) (pending_of l count) (r.made + 1))
          (drop-set-lt r.rows work r.made r.made h.room)
          ∙ ap (state_of (cell r.n r.rows table) (forward_of work r.made) (pending_of (drop r.rows work) count)) (add-one r.made)

  pub grow_usable : Usable next table work₁ count
  grow_usable =
      let u = fit_usable h.fit in
      record {
        lent =
            record {
              some = h.fit.lent.some;
              most = h.fit.lent.most;
              inside = omega (arith, h.room);
              fits = h.fit.lent.fits;
              lent = h.fit.lent.lent;
              room = omega (arith, grown_left.work_same, h.fit.lent.room);
              falls = grown_left.falls;
            };
        named = λ v y x l. omega (arith, u.named v y x l);
        spare = u.spare;
      }

  -- the letter is not touched by the store
  pub grow_letter : get_or work₁ (2 * r.rows + i) 0 ≡ get_or (word_in r work) i 0
  grow_letter =
      get_or-set_other work r.made (2 * r.rows + i) r.made 0 (λ e. omega (arith, h.room)) ∙ sym (word_at r work i)

  pub grow_left : {table' work' : List ℕ} {k : ℕ}
      → After next (λ t. joined t at (get_or work₁ (2 * r.rows + i) 0) r.made)
      (λ t v. joined_work r.rows t v at (get_or work₁ (2 * r.rows + i) 0) r.made) table work₁ count table' work' k
      → GrownIn r table work count at i table' work' k
  grow_left m =
      left_as (ap (λ y. joined (grown s) at y r.made) grow_letter) (ap (λ y. joined_work r.rows (grown s) work₁ at y r.made) grow_letter)
      (left_then grown_left (λ t. joined t at (get_or work₁ (2 * r.rows + i) 0) r.made)
      (λ t v. joined_work r.rows t v at (get_or work₁ (2 * r.rows + i) 0) r.made) m)

-- ── The end of a chain ──

module _ {r : Room} {table work : List ℕ} {count at b i end : ℕ} (h : ChainFits r table work count at b i end) where
  pub close_usable : Usable r table work count
  close_usable = fit_usable h.fit

  long : end ≤ length (word_in r work)
  long = omega (arith, word_long h.fit.lent, h.place)

  -- the letters l are chained
  abbrev Closes : List ℕ → List ℕ → List ℕ → ℕ → Type 0
  Closes l = After r (λ t. chained t at l b) (λ t v. chained_work r.rows t v at l b) table work count

  -- no letter is left
  pub close_none : {k : ℕ} {table' after : List ℕ} → i ≡ end
      → After r (λ t. united t at b) (λ t v. united_work r.rows t v at b) table work count table' after k
      → ClosedIn r table work count at b i end table' after k
  unfolding chained chained_work
  close_none {k} {table'} {after} e u =
      subst (λ l. Closes l table' after k) (sym (ap (part (word_in r work) i) (sym e) ∙ part_none (word_in r work) i (omega (arith, long)))) u

  -- the letters that are left
  pub first_letter : i < end → part (word_in r work) i end ≡ get_or (word_in r work) i 0 ∷ part (word_in r work) (suc i) end
  first_letter l = part_cons (word_in r work) i end l long

  pub letter_below : i < end → get_or (word_in r work) i 0 < 2 * r.n
  letter_below l =
      usual_below r.n (get_or (word_in r work) i 0)
      (subst (AllIn (usual r.n)) (first_letter l) h.chainable.letters).0

  module _ (n : i ≡ end → ⊥) (o : end ≤ i + 1) where
    last : i < end
    last = omega (arith, h.order)

    one : part (word_in r work) i end ≡ get_or work (2 * r.rows + i) 0 ∷ []
    one =
        first_letter last
        ∙ ap (λ l. get_or (word_in r work) i 0 ∷ l) (ap (part (word_in r work) (suc i)) next ∙ part_none (word_in r work) (suc i) (omega (arith, long)))
        ∙ ap (λ y. y ∷ []) (word_at r work i)
      where
        next : end ≡ suc i
        next = omega arith

    pub close_ends : Ends r at (get_or work (2 * r.rows + i) 0) b
    close_ends =
        record {
          from = h.chainable.from;
          to = h.chainable.to;
          letter = subst (λ y. y < 2 * r.n) (word_at r work i) (letter_below last);
        }

    pub close_letter : {table' work' : List ℕ} {k : ℕ}
        → After r (λ t. joined t at (get_or work (2 * r.rows + i) 0) b) (λ t v. joined_work r.rows t v at (get_or work (2 * r.rows + i) 0) b)
        table work count table' work' k
        → ClosedIn r table work count at b i end table' work' k
    unfolding chained chained_work
    close_letter {table'} {work'} {k} m = subst (λ l. Closes l table' work' k) (sym one) m

-- ── The loop ──

pub record Head (r : Room) (table₀ work₀ : List ℕ) (a b first end : ℕ) (made count at i : ℕ) (table work : List ℕ) : Type 0 where
  pub fits : ChainFits (with_made r made) table work count at b i end
  pub left : Left (with_made r made) table₀ work₀ (state_in (with_made r made) table work count) work table work count
  pub ends : chained_by (with_made r made) table work count at b i end ≡ chained_by r table₀ work₀ 0 a b first end
  pub cells : chained_cells (with_made r made) table work count at b i end ≡ chained_cells r table₀ work₀ 0 a b first end

module _ {r : Room} {table₀ work₀ : List ℕ} {a b first end made count at i : ℕ} {table work : List ℕ}
    (h : Head r table₀ work₀ a b first end made count at i table work) where
  abbrev here : Room
  here = with_made r made

  abbrev w : List ℕ
  w = word_in r work

  module _ (l : i + 1 < end) where
    abbrev y : ℕ
    y = get_or w i 0

    abbrev z : ℕ
    z = get_or w (suc i) 0

    abbrev rest : List ℕ
    rest = part w (suc (suc i)) end

    two : part w i end ≡ y ∷ (z ∷ rest)
    two =
        first_letter h.fits (omega arith)
        ∙ ap (λ t. y ∷ t) (part_cons w (suc i) end (omega arith) (omega (arith, word_long h.fits.fit.lent, h.fits.place)))

    abbrev now : State
    now = state_in here table work count

    chains : Chainable (λ t. Unit {0}) (λ v. []) (usual r.n) now at (y ∷ (z ∷ rest)) b
    chains = subst (λ t. Chainable (λ q. Unit {0}) (λ v. []) (usual r.n) now at t b) two h.fits.chainable

    points : 2 ≤ length (part w i end)
    points = omega (arith, ap length two)

    pub head_grows : Growing here table work count at i
    head_grows =
        record {
          fit = h.fits.fit;
          room = omega (arith, points, h.fits.room);
          from = h.fits.chainable.from;
          place = omega (arith, h.fits.place);
          letter = letter_below h.fits (omega arith);
        }

    module _ {table' work' : List ℕ} {k : ℕ} (m : GrownIn here table work count at i table' work' k) where
      abbrev grew : State
      grew = joined (grown now) at y made

      onward : Chainable (λ t. Unit {0}) (λ v. []) (usual r.n) grew made (z ∷ rest) b
      onward =
          let n = chain_next all_words (usual_closed r.n) now at y z rest b chains in
          record {
            stage = plain_stage n.stage;
            from = n.from;
            to = n.to;
            from_live = n.from_live;
            to_live = n.to_live;
            letters = n.letters;
            reduces = n.reduces;
            label_in = tt;
            room = n.room;
          }

      -- the pending list keeps its room
      roomy : Roomy grew
      roomy =
          let k = joined_kept all_words (stage₁ all_words (usual_closed r.n) now at y z rest b chains) at y made
          (chain_joinable all_words (usual_closed r.n) now at y z rest b chains) in
          omega (arith, k.weighs, k.made, grown_weight all_words h.fits.fit.stage, h.fits.fit.roomy)

      -- the word stays
      word_same : word_in r work' ≡ w
      word_same = m.work_rest

      part_next : part (word_in r work') (i + 1) end ≡ z ∷ rest
      part_next =
          ap (λ t. part t (i + 1) end) word_same ∙ ap (λ j. part w j end) (add-one i)
          ∙ part_cons w (suc i) end (omega arith) (omega (arith, word_long h.fits.fit.lent, h.fits.place))

      pub head_turn : Head r table₀ work₀ a b first end (made + 1) k made (i + 1) table' work'
      unfolding chained chained_work
      head_turn =
          record {
            fits =
                record {
                  fit = fit_grown (made + 1) (omega (arith, points, h.fits.room)) h.fits.fit.lent m onward.stage roomy;
                  order = omega arith;
                  place = h.fits.place;
                  room = omega (arith, ap length part_next, ap length two, h.fits.room);
                  chainable = subst₂ (λ q t. Chainable (λ e. Unit {0}) (λ v. []) (usual r.n) q made t b) (sym m.state) (sym part_next) onward;
                };
            left = left_as (sym m.state) (sym m.cells)
                (left_after refl refl h.left (λ q. joined (grown q) at y made)
                (λ q v. joined_work r.rows (grown q) (set v made made) at y made) m);
            ends = subst₂ (λ q t. chained q made t b ≡ chained_by r table₀ work₀ 0 a b first end) (sym m.state) (sym part_next) ahead;
            cells = ap (λ q. chained_work r.rows q work' made (part (word_in r work') (i + 1) end) b) m.state
                ∙ ap (λ t. chained_work r.rows grew work' made t b) part_next
                ∙ ap (λ v. chained_work r.rows grew v made (z ∷ rest) b) m.cells
                ∙ ap (λ t. chained_work r.rows now work at t b) (sym two)
                ∙ h.cells;
          }
        where
          ahead : chained grew made (z ∷ rest) b ≡ chained_by r table₀ work₀ 0 a b first end
          ahead = ap (λ t. chained now at t b) (sym two) ∙ h.ends
