-- One word taken in, on plain values: what the parts of `circle` and `take_in` ask and leave.
--   work_is     : reducing the word leaves `reduced_in`
--   front_asks, back_asks, chain_asks, circle_is : the readings, the chain, and what they are in the engine's model
--   drain_asks  : what the drain asks
--   taken_points, taken_fit, taken_long, taken_rest : what a caller learns
-- Assumes nothing.
use mathlib.Core.Path.{◌≡◌, refl, sym, ◌∙◌, ap, subst, subst₂, fun_ext}
use mathlib.Core.Logic.{by_cases}
use mathlib.Core.List.{List, [], ◌∷◌, ◌++◌, append-nil, append_assoc}
use Prim.Native.Nat.{ℕ, zero, suc, ◌+◌, ◌-◌, ◌*◌, ◌≤◌, ◌<◌}
use native.Mathlib.Decide.{dec_lt}
use native.Mathlib.Omega.{arith}
use lib.ListN.{length, get_or, take, drop, replicate, length-append, length-drop, length-replicate, drop_of_length-le}
use lib.Seq.{drop-drop, take_all, take-append_seam, drop-append_seam, take-take, length-take-le, get_or-take, get_or-drop}
use Rattle.std.proofs.lemmas.List.{drop-take}
use borrow.Rule.Slice.PartMut.{put_mid}
use Rattle.theory.specs.Words.{reduced, inverse_of}
use Rattle.theory.specs.Letters.{first_word, AllIn, usual}
use Rattle.theory.specs.Graphs.{new_points}
use Rattle.theory.specs.Tables.{Cells, cell}
use Rattle.theory.proofs.WordLaws.{letters, reduced_none}
use Rattle.theory.proofs.TextLaws.{length-first_word}
use Rattle.theory.proofs.StartLaws.{reduced_shorter}
use Rattle.words.specs.declared.Reduced.{Reduced as Figures}
use Rattle.words.specs.Reduction.{reduced_cells, ReducedInto}
use Rattle.words.proofs.ReduceTurn.{cells_kept}
use Rattle.engine.specs.Roots.{Falls}
use Rattle.engine.specs.Engine.{state_of, front, behind, chained, taken_in}
use Rattle.engine.specs.Stages.{Chainable, Roomy}
use Rattle.engine.specs.Work.{forward_of, pending_of}
use Rattle.engine.proofs.WorkLaws.{forward_in, forward_own}
use Rattle.engine.proofs.DrainLaws.{drained_settles, drained_roomy}
use Rattle.engine.proofs.ChainLaws.{Chains, chained_chains}
use Rattle.engine.proofs.TakeLaws.{stage_chainable}
use Rattle.engine.proofs.FoldLaws.{all_reduced, parts_read, middle_points}
use Rattle.engine.proofs.FoldedTable.{usual_closed}
use Rattle.rooms.specs.declared.Room.{Room}
use Rattle.rooms.specs.WorkCells.{chained_work, taken_work}
use Rattle.rooms.specs.Rooms.{state_in, with_made, Plain, Fit, Left}
use Rattle.rooms.proofs.RoomLaws.{all_words, plain_stage, left_as, fit_grown, fit_usable}
use Rattle.takes.specs.declared.Stop.{Stop}
use Rattle.takes.specs.Readings.{Readable, FrontOf, BackOf}
use Rattle.takes.specs.Chains.{word_in, part, ChainFits, chained_by, chained_cells, Chained}
use Rattle.takes.specs.Takes.{reduced_in, circled_cells, Takeable, circled, CircleOf, TakenIn}
use Rattle.takes.proofs.ChainTurn.{usual_below}

-- behind some letters
readable_drop : {r : Room} {table w : List ℕ} → Readable r table w → (k : ℕ) → Readable r table (drop k w)
readable_drop {r} {table} {w} h k =
    record {
      most = h.most;
      inside = h.inside;
      lent = h.lent;
      named = h.named;
      base = h.base;
      letters = λ i l. subst (λ y. y < 2 * r.n) (sym (get_or-drop k w i 0)) (h.letters (k + i) (omega (arith, length-drop k w)));
    }

-- the letters of a word of n generators
letters_below : (n : ℕ) (w : List ℕ) → AllIn (usual n) w → (i : ℕ) → i < length w → get_or w i 0 < 2 * n
letters_below n [] h i l = absurd (omega arith)
letters_below n (y ∷ w) h zero l = usual_below n y h.0
letters_below n (y ∷ w) h (suc i) l = letters_below n w h.1 i (omega arith)

module _ {r : Room} {text table work : List ℕ} (h : Takeable r text table work) where
  abbrev R : ℕ
  R = r.rows

  abbrev word : List ℕ
  word = reduced (first_word text)

  abbrev c : Cells
  c = cell r.n R table

  abbrev behind_r : List ℕ
  behind_r = drop (2 * R) work

  -- the middle of the word may be chained
  word_chainable
      : Chainable (λ w. Unit {0}) (λ v. []) (usual r.n) (state_in r table work 0) (front c word).point (inverse_of (behind c word).rest) (behind c word).point
  word_chainable =
      stage_chainable all_words (usual_closed r.n) h.fit.stage word _ _ _ _ _ (parts_read c word) (reduced_none letters (first_word text))
      (all_reduced (usual r.n) (first_word text) h.letters) tt (omega (arith, h.room, h.fit.lent.fits))

  whole : take (length work - 2 * R) behind_r ≡ behind_r
  whole = take_all (length work - 2 * R) behind_r (omega (arith, length-drop (2 * R) work))

  -- reducing the word behind the pending cells
  pub work_is : {d : Figures} {after : List ℕ} → ReducedInto text (take (length work - 2 * R) behind_r) d after
      → put_mid (2 * R) (length work - 2 * R) work after ≡ reduced_in R (first_word text) work
  unfolding reduced_in
  work_is {d} {after} e =
      ap (λ l. take (2 * R) work ++ l)
      (ap (λ l. after ++ l) none ∙ append-nil after ∙ e.cells ∙ ap (reduced_cells (first_word text)) whole)
    where
      none : drop (length work - 2 * R) behind_r ≡ []
      none = drop_of_length-le behind_r {i = length work - 2 * R} (omega (arith, length-drop (2 * R) work))

  -- the letters that went, and the cells behind the word
  abbrev gone : List ℕ
  gone = replicate (length (first_word text) - length word) 0

  abbrev untaken : List ℕ
  untaken = drop (length (first_word text)) behind_r

  cells_parts : reduced_cells (first_word text) behind_r ≡ word ++ (gone ++ untaken)
  unfolding reduced_cells
  cells_parts = append_assoc word gone untaken

  -- as many cells as before
  reduced_long : length (reduced_in R (first_word text) work) ≡ length work
  unfolding reduced_in
  reduced_long =
      length-append (take (2 * R) work) (reduced_cells (first_word text) behind_r)
      ∙ omega (
        arith,
        length-take-le (2 * R) work (omega (arith, h.fit.lent.room)),
        ap length cells_parts,
        length-append word (gone ++ untaken),
        length-append gone untaken,
        length-replicate {A = ℕ} (length (first_word text) - length word) 0,
        length-drop (length (first_word text)) behind_r,
        length-drop (2 * R) work,
        reduced_shorter (first_word text),
        length-first_word text,
        h.place,
        h.fit.lent.room,
      )

  module _ {work₁ : List ℕ} (e₁ : work₁ ≡ reduced_in R (first_word text) work) where
    k₁ : length work₁ ≡ length work
    k₁ = ap length e₁ ∙ reduced_long

    front_long : length (take (2 * R) work) ≡ 2 * R
    front_long = length-take-le (2 * R) work (omega (arith, h.fit.lent.room))

    word_cells : word_in r work₁ ≡ reduced_cells (first_word text) behind_r
    unfolding reduced_in
    word_cells =
        ap (drop (2 * R)) e₁
        ∙ ap (λ k. drop k (take (2 * R) work ++ reduced_cells (first_word text) behind_r)) (sym front_long)
        ∙ drop-append_seam (take (2 * R) work) (reduced_cells (first_word text) behind_r)

    word_size : take (length word) (word_in r work₁) ≡ word
    word_size = ap (take (length word)) (word_cells ∙ cells_parts) ∙ take-append_seam word (gone ++ untaken)

    -- the cells before the word are as they were
    front_same : take (2 * R) work₁ ≡ take (2 * R) work
    unfolding reduced_in
    front_same =
        ap (take (2 * R)) e₁
        ∙ ap (λ k. take k (take (2 * R) work ++ reduced_cells (first_word text) behind_r)) (sym front_long)
        ∙ take-append_seam (take (2 * R) work) (reduced_cells (first_word text) behind_r)

    forward_same : forward_of work₁ r.made ≡ forward_of work r.made
    forward_same = fun_ext (λ u. by_cases (dec_lt u r.made) (inside u) (λ g. outside u (omega arith)))
      where
        inside : (u : ℕ) → u < r.made → forward_of work₁ r.made u ≡ forward_of work r.made u
        inside u g =
            forward_in work₁ r.made u g
            ∙ sym (get_or-take (2 * R) work₁ u 0 (omega (arith, h.fit.lent.inside)))
            ∙ ap (λ l. get_or l u 0) front_same
            ∙ get_or-take (2 * R) work u 0 (omega (arith, h.fit.lent.inside))
            ∙ sym (forward_in work r.made u g)

        outside : (u : ℕ) → r.made ≤ u → forward_of work₁ r.made u ≡ forward_of work r.made u
        outside u g = forward_own work₁ r.made u g ∙ sym (forward_own work r.made u g)

    state_same : state_in r table work₁ 0 ≡ state_in r table work 0
    unfolding pending_of
    state_same = ap (λ f. state_of c f [] r.made) forward_same

    pub fit_same : Fit r [] table work₁ 0
    fit_same =
        record {
          lent =
              record {
                some = h.fit.lent.some;
                most = h.fit.lent.most;
                inside = h.fit.lent.inside;
                fits = h.fit.lent.fits;
                lent = h.fit.lent.lent;
                room = omega (arith, k₁, h.fit.lent.room);
                falls = subst Falls (sym forward_same) h.fit.lent.falls;
              };
          stage = subst (λ s. Plain r [] s) (sym state_same) h.fit.stage;
          roomy = subst Roomy (sym state_same) h.fit.roomy;
        }

  -- ── The readings ──

  module _ {d : Figures} {after : List ℕ} (e : ReducedInto text (take (length work - 2 * R) behind_r) d after) where
    abbrev work₁ : List ℕ
    work₁ = put_mid (2 * R) (length work - 2 * R) work after

    e₁ : work₁ ≡ reduced_in R (first_word text) work
    e₁ = work_is e

    readable_word : Readable r table word
    readable_word =
        record {
          most = h.fit.lent.most;
          inside = h.fit.lent.inside;
          lent = h.fit.lent.lent;
          named = (fit_usable h.fit).named;
          base = h.fit.stage.some;
          letters = letters_below r.n word (all_reduced (usual r.n) (first_word text) h.letters);
        }

    -- the cells that are read forward hold the word
    word_read : take (2 * R + d.left - 2 * R) (word_in r work₁) ≡ word
    word_read = ap (λ k. take k (word_in r work₁)) long ∙ word_size e₁
      where
        long : 2 * R + d.left - 2 * R ≡ length word
        long = omega (arith, e.left)

    pub front_asks : Readable r table (take (2 * R + d.left - 2 * R) (word_in r work₁))
    front_asks = subst (Readable r table) (sym word_read) readable_word

    module _ {f : Stop} (p : FrontOf c (take (2 * R + d.left - 2 * R) (word_in r work₁)) f) where
      front_word : FrontOf c word f
      front_word = subst (λ w. FrontOf c w f) word_read p

      abbrev size : ℕ
      size = 2 * R + d.left - (2 * R + f.count)

      -- and those that are read backward what is left of it
      rest_is : take size (drop f.count (word_in r work₁)) ≡ (front c word).rest
      rest_is =
          sym (drop-take f.count size (word_in r work₁)) ∙ ap (λ k. drop f.count (take k (word_in r work₁))) long
          ∙ ap (drop f.count) (word_size e₁) ∙ front_word.rest
        where
          long : f.count + size ≡ length word
          long = omega (arith, e.left, front_word.inside)

      rest_read : take size (drop (2 * R + f.count) work₁) ≡ (front c word).rest
      rest_read = ap (take size) (sym (drop-drop f.count (2 * R) work₁)) ∙ rest_is

      pub back_asks : Readable r table (take size (drop (2 * R + f.count) work₁))
      back_asks = subst (Readable r table) (front_word.rest ∙ sym rest_read) (readable_drop readable_word f.count)

      module _ {b : Stop} (q : BackOf c (take size (drop (2 * R + f.count) work₁)) b) where
        back_rest : BackOf c (front c word).rest b
        back_rest = subst (λ w. BackOf c w b) rest_read q

        abbrev end : ℕ
        end = f.count + b.count

        -- the middle of the word
        abbrev middle : List ℕ
        middle = inverse_of (behind c word).rest

        inside : end ≤ length word
        inside = omega (arith, back_rest.inside, ap length front_word.rest, length-drop f.count word, front_word.inside)

        middle_is : part (word_in r work₁) f.count end ≡ middle
        middle_is =
            drop-take f.count b.count (word_in r work₁)
            ∙ sym (take-take b.count size (drop f.count (word_in r work₁)) (omega (arith, inside, e.left)))
            ∙ ap (take b.count) rest_is
            ∙ back_rest.rest

        made_is : chained_by r table work₁ 0 f.point b.point f.count end ≡ circled r text table work
        unfolding taken_in
        made_is =
            ap (λ s. chained s f.point (part (word_in r work₁) f.count end) b.point) (state_same e₁)
            ∙ ap (λ a. chained (state_in r table work 0) a (part (word_in r work₁) f.count end) b.point) front_word.point
            ∙ ap (λ m. chained (state_in r table work 0) (front c word).point m b.point) middle_is
            ∙ ap (chained (state_in r table work 0) (front c word).point middle) back_rest.point

        cells_are
            : chained_cells r table work₁ 0 f.point b.point f.count end
            ≡ circled_cells R (state_in r table work 0) work (first_word text)
        unfolding taken_work
        cells_are =
            ap (λ s. chained_work R s work₁ f.point (part (word_in r work₁) f.count end) b.point) (state_same e₁)
            ∙ ap (λ a. chained_work R (state_in r table work 0) work₁ a (part (word_in r work₁) f.count end) b.point) front_word.point
            ∙ ap (λ m. chained_work R (state_in r table work 0) work₁ (front c word).point m b.point) middle_is
            ∙ ap (chained_work R (state_in r table work 0) work₁ (front c word).point middle) back_rest.point
            ∙ ap (λ l. chained_work R (state_in r table work 0) l (front c word).point middle (behind c word).point) e₁

        pub chain_asks : ChainFits r table work₁ 0 f.point b.point f.count end
        chain_asks =
            record {
              fit = fit_same e₁;
              order = omega arith;
              place = omega (arith, inside, reduced_shorter (first_word text), length-first_word text, h.place);
              room = omega (arith, ap length middle_is, middle_points c word, h.room);
              chainable =
                  subst (λ s. Chainable (λ w. Unit {0}) (λ v. []) (usual r.n) s f.point (part (word_in r work₁) f.count end) b.point) (sym (state_same e₁))
                  (subst (λ a. Chainable (λ w. Unit {0}) (λ v. []) (usual r.n) (state_in r table work 0) a (part (word_in r work₁) f.count end) b.point) (sym front_word.point)
                  (subst₂ (λ m d. Chainable (λ w. Unit {0}) (λ v. []) (usual r.n) (state_in r table work 0) (front c word).point m d) (sym middle_is) (sym back_rest.point) word_chainable));
            }

        pub circle_is : {made pending : ℕ} {table' work' : List ℕ}
            → Chained r table work₁ 0 f.point b.point f.count end made pending table' work'
            → CircleOf r text table work made pending d.left table' work'
        circle_is {made} {pending} {table'} {work'} k =
            record {
              made_is = k.made_is ∙ ap (λ s. s.made) made_is;
              letters = e.left;
              leaves = subst (λ l. Left (with_made r made) table l (circled r text table work)
                  (circled_cells R (state_in r table work 0) work (first_word text)) table' work' pending) e₁ (left_as made_is cells_are k.left);
            }

  -- ── The drain ──

  chained_in : Chains (λ w. Unit {0}) (usual r.n) (state_in r table work 0) (front c word).point (inverse_of (behind c word).rest) (behind c word).point
      (circled r text table work)
  unfolding taken_in
  chained_in = chained_chains all_words (usual_closed r.n) (state_in r table work 0) _ _ _ word_chainable

  module _ {made pending left : ℕ} {table' work' : List ℕ} (k : CircleOf r text table work made pending left table' work') where
    pub drain_asks : Fit (with_made r made) [] table' work' pending
    drain_asks =
        fit_grown made (omega (arith, k.made_is, chained_in.made, middle_points c word, h.room))
        (fit_same refl).lent k.leaves (plain_stage chained_in.stage) (omega (arith, chained_in.made, chained_in.weighs, h.fit.roomy))

  -- ── For callers ──

  module _ {made left : ℕ} {table' work' : List ℕ} (k : TakenIn r text table work made left table' work') where
    -- no more new points than the word's circle has
    pub taken_points : made ≤ r.made + new_points word
    taken_points = omega (arith, k.made_is, chained_in.made, middle_points c word)

    -- nothing is pending, and the next word may be taken in
    pub taken_fit : Fit (with_made r made) [] table' work' 0
    taken_fit =
        fit_grown made (omega (arith, taken_points, h.room)) (fit_same refl).lent k.leaves
        (drained_settles all_words (plain_stage chained_in.stage)).stage
        (drained_roomy all_words (plain_stage chained_in.stage) (omega (arith, chained_in.made, chained_in.weighs, h.fit.roomy)))

    pub taken_long : length work' ≡ length work
    taken_long = k.leaves.work_same ∙ reduced_long

    pub taken_rest : drop (3 * R) work' ≡ drop (3 * R) work
    taken_rest =
        split work' ∙ ap (drop R) (k.leaves.work_rest ∙ word_cells refl)
        ∙ cells_kept (first_word text) behind_r R (omega (arith, length-first_word text, h.place)) ∙ sym (split work)
      where
        split : (l : List ℕ) → drop (3 * R) l ≡ drop R (drop (2 * R) l)
        split l = ap (λ j. drop j l) three ∙ sym (drop-drop R (2 * R) l)
          where
            three : 3 * R ≡ 2 * R + R
            three = omega arith
