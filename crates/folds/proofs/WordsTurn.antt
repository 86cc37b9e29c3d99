-- The turns of `take_words` on plain values: the words before `at` are taken in, those behind it are still to come.
-- Assumes nothing.
use mathlib.Core.Path.{◌≡◌, refl, sym, ◌∙◌, ap, subst}
use mathlib.Core.List.{List, [], ◌∷◌}
use Prim.Native.Nat.{ℕ, ◌+◌, ◌-◌, ◌*◌, ◌≤◌, ◌<◌}
use native.Mathlib.Omega.{arith}
use lib.ListN.{length, take, drop, drop_of_length-le}
use Rattle.theory.specs.Words.{reduced}
use Rattle.theory.specs.Letters.{first_word, words_of, usual}
use Rattle.theory.specs.Graphs.{start_points, new_points, start_graph, reduced_length}
use Rattle.theory.proofs.TextLaws.{word_letters, letters_drop}
use Rattle.theory.proofs.TableLaws.{length-up_to}
use Rattle.theory.proofs.StartLaws.{start_edges, reduced_length_written, written_letters}
use Rattle.engine.specs.Engine.{State, start, taken_in, drained, folded}
use Rattle.engine.specs.Stages.{Settled, Roomy}
use Rattle.engine.proofs.TakeLaws.{start_settled}
use Rattle.engine.proofs.TableExists.{AllWords, good_words, list_points, list_short}
use Rattle.rooms.specs.declared.Room.{Room}
use Rattle.rooms.specs.Rooms.{state_in, with_made, Plain, Fit}
use Rattle.rooms.proofs.RoomLaws.{all_words, plain_stage}
use Rattle.lists.specs.Counts.{next_start}
use Rattle.lists.proofs.CountTurn.{rest_of}
use Rattle.lists.proofs.StartTurn.{words_next, next_in}
use Rattle.takes.specs.Takes.{taken_cells, Takeable, TakenIn}
use Rattle.takes.proofs.TakeTurn.{taken_points, taken_fit, taken_rest, taken_long}
use Rattle.folds.specs.Rows.{Prepared, all_in, folded_cells, WordsIn}

some_point : (ws : List (List ℕ)) → 1 ≤ start_points ws
unfolding start_points
some_point [] = omega arith
some_point (w ∷ ws) = omega (arith, some_point ws)

-- a word more
folded_more : (ys : List ℕ) (s : State) (w : List ℕ) (ws : List (List ℕ))
    → folded ys (drained ys (taken_in s (reduced w))) ws ≡ folded ys s (w ∷ ws)
unfolding folded
folded_more ys s w ws = refl

cells_more : (R : ℕ) (ys : List ℕ) (s : State) (w u : List ℕ) (us : List (List ℕ))
    → folded_cells R ys (drained ys (taken_in s (reduced u))) (taken_cells R ys s w u) us ≡ folded_cells R ys s w (u ∷ us)
unfolding folded_cells
cells_more R ys s w u us = refl

pub record Head (r : Room) (list table₀ work₀ : List ℕ) (made points edges at : ℕ) (table work : List ℕ) : Type 0 where
  pub prepared : Prepared r list table₀ work₀
  pub inside : at ≤ length list
  pub fit : Fit (with_made r made) [] table work 0
  pub words : AllWords (usual r.n) (words_of (drop at list))
  pub room : made + start_points (words_of (drop at list)) ≤ r.rows + 1
  pub ends : folded (usual r.n) (state_in (with_made r made) table work 0) (words_of (drop at list)) ≡ folded (usual r.n) start (words_of list)
  pub cells
      : folded_cells r.rows (usual r.n) (state_in (with_made r made) table work 0) work (words_of (drop at list))
      ≡ folded_cells r.rows (usual r.n) start work₀ (words_of list)
  pub pointed : points + start_points (words_of (drop at list)) ≡ start_points (words_of list) + 1
  pub edged : edges + reduced_length (words_of (drop at list)) ≡ reduced_length (words_of list)
  pub table_same : length table ≡ length table₀
  pub table_rest : drop (r.rows * (2 * r.n)) table ≡ drop (r.rows * (2 * r.n)) table₀
  pub work_same : length work ≡ length work₀
  pub work_rest : drop (3 * r.rows) work ≡ drop (3 * r.rows) work₀

-- the base alone
pub head_first : {r : Room} {list table work : List ℕ} → Prepared r list table work → Head r list table work r.made 1 0 0 table work
unfolding start
head_first {r} {list} {table} {work} p =
    record {
      prepared = p;
      inside = omega arith;
      fit =
          record {
            lent = p.lent;
            stage = subst (Plain r []) (sym p.fresh) (plain_stage fresh.stage);
            roomy = subst Roomy (sym p.fresh) fresh.roomy;
          };
      words = good_words r.n list p.fine;
      room = omega (arith, list_points list, p.rows, one);
      ends = ap (λ s. folded (usual r.n) s (words_of list)) p.fresh;
      cells = ap (λ s. folded_cells r.rows (usual r.n) s work (words_of list)) p.fresh;
      pointed = omega arith;
      edged = omega arith;
      table_same = refl;
      table_rest = refl;
      work_same = refl;
      work_rest = refl;
    }
  where
    fresh : Settled (λ w. Unit {0}) (usual r.n) [] start
    fresh = start_settled (λ w. Unit {0}) all_words (usual r.n)

    one : r.made ≡ start.made
    one = ap (λ s. s.made) p.fresh

module _ {r : Room} {list table₀ work₀ : List ℕ} {made points edges at : ℕ} {table work : List ℕ} (h : Head r list table₀ work₀ made points edges at table work) where
  module _ (l : at < length list) where
    abbrev d : List ℕ
    d = drop at list

    abbrev next : ℕ
    next = next_start list at

    walk : words_of d ≡ first_word d ∷ words_of (drop next list)
    walk = words_next list at next l refl

    more : start_points (words_of d) ≡ new_points (reduced (first_word d)) + start_points (words_of (drop next list))
    unfolding start_points
    more = ap start_points walk

    longer : reduced_length (words_of d) ≡ length (reduced (first_word d)) + reduced_length (words_of (drop next list))
    unfolding reduced_length
    longer = ap reduced_length walk

    takeable : Takeable (with_made r made) d table work
    takeable =
        record {
          fit = h.fit;
          letters = (subst (AllWords (usual r.n)) walk h.words).0;
          place = omega (arith, word_letters d, letters_drop at list, h.prepared.rows);
          room = omega (arith, h.room, more, some_point (words_of (drop next list)));
        }

    -- the part that is handed over is the rest of the list
    pub head_asks : Takeable (with_made r made) (take (length list - at) (drop at list)) table work
    head_asks = subst (λ t. Takeable (with_made r made) t table work) (sym (rest_of list at)) takeable

    module _ {made' left : ℕ} {table' work' : List ℕ} (t : TakenIn (with_made r made) (take (length list - at) (drop at list)) table work made' left table' work') where
      taken : TakenIn (with_made r made) d table work made' left table' work'
      taken = subst (λ p. TakenIn (with_made r made) p table work made' left table' work') (rest_of list at) t

      pub head_turn : {m e : ℕ} → m ≡ left - 1 → e ≡ next_start list at
          → Head r list table₀ work₀ made' (points + m) (edges + left) e table' work'
      head_turn {m} {e} fresh q = subst (λ j. Head r list table₀ work₀ made' (points + m) (edges + left) j table' work') (sym q) turned
        where
          after : State
          after = drained (usual r.n) (taken_in (state_in (with_made r made) table work 0) (reduced (first_word d)))

          ahead : folded (usual r.n) (state_in (with_made r made') table' work' 0) (words_of (drop next list)) ≡ folded (usual r.n) start (words_of list)
          ahead =
              ap (λ s. folded (usual r.n) s (words_of (drop next list))) taken.leaves.state
              ∙ folded_more (usual r.n) (state_in (with_made r made) table work 0) (first_word d) (words_of (drop next list))
              ∙ ap (folded (usual r.n) (state_in (with_made r made) table work 0)) (sym walk)
              ∙ h.ends

          cells_ahead
              : folded_cells r.rows (usual r.n) (state_in (with_made r made') table' work' 0) work' (words_of (drop next list))
              ≡ folded_cells r.rows (usual r.n) start work₀ (words_of list)
          cells_ahead =
              ap (λ s. folded_cells r.rows (usual r.n) s work' (words_of (drop next list))) taken.leaves.state
              ∙ ap (λ w. folded_cells r.rows (usual r.n) after w (words_of (drop next list))) taken.leaves.cells
              ∙ cells_more r.rows (usual r.n) (state_in (with_made r made) table work 0) work (first_word d) (words_of (drop next list))
              ∙ ap (folded_cells r.rows (usual r.n) (state_in (with_made r made) table work 0) work) (sym walk)
              ∙ h.cells

          turned : Head r list table₀ work₀ made' (points + m) (edges + left) next table' work'
          turned =
              record {
                prepared = h.prepared;
                inside = next_in list at next refl;
                fit = taken_fit takeable taken;
                words = (subst (AllWords (usual r.n)) walk h.words).1;
                room = omega (arith, h.room, more, taken_points takeable taken);
                pointed = omega (arith, h.pointed, more, taken.letters, fresh);
                edged = omega (arith, h.edged, longer, taken.letters);
                ends = ahead;
                cells = cells_ahead;
                table_same = taken.leaves.table_same ∙ h.table_same;
                table_rest = taken.leaves.table_rest ∙ h.table_rest;
                work_same = taken_long takeable taken ∙ h.work_same;
                work_rest = taken_rest takeable taken ∙ h.work_rest;
              }

      -- the counts stay small
      pub head_small : {m : ℕ} → m ≡ left - 1 → (points + m ≤ 1048578) × (edges + left ≤ 1048576)
      head_small fresh =
          let l = list_short r.n list h.prepared.fine in (
            omega (arith, h.pointed, more, taken.letters, fresh, some_point (words_of (drop next list)), list_points list, l),
            omega (arith, h.edged, longer, taken.letters, reduced_length_written (words_of list), written_letters list, l),
          )

  none_left : length list ≤ at → drop at list ≡ []
  none_left l = drop_of_length-le list {i = at} l

  whole : length list ≤ at → state_in (with_made r made) table work 0 ≡ all_in r list
  unfolding folded words_of
  whole l = sym (ap (λ t. folded (usual r.n) (state_in (with_made r made) table work 0) (words_of t)) (none_left l)) ∙ h.ends

  pub head_made : length list ≤ at → made ≡ (all_in r list).made
  head_made l = ap (λ s. s.made) (whole l)

  pub head_done : length list ≤ at → WordsIn r list table₀ work₀ (record { points = points; edges = edges }) table work
  unfolding folded folded_cells words_of start_points reduced_length start_graph
  head_done l =
      record {
        sizes =
            record {
              points = omega (arith, h.pointed, ap (λ t. start_points (words_of t)) (none_left l), length-up_to (start_points (words_of list)));
              edges = omega (arith, h.edged, ap (λ t. reduced_length (words_of t)) (none_left l), start_edges (words_of list));
            };
        state = subst (λ m. state_in (with_made r m) table work 0 ≡ all_in r list) (head_made l) (whole l);
        cells = sym (ap (λ t. folded_cells r.rows (usual r.n) (state_in (with_made r made) table work 0) work (words_of t)) (none_left l)) ∙ h.cells;
        table_same = h.table_same;
        table_rest = h.table_rest;
        work_same = h.work_same;
        work_rest = h.work_rest;
      }
