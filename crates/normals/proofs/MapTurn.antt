-- The walk of `leads_back` on plain values.
--   Follow n N t p v y g work <-> the cells before letter y of row v are carried over from the base to p: g is the greatest point met,
--                                 and the points up to it have their images
--   follow_first, follow_turn, follow_row : so it is at the first cell, after a cell, after a row
--   follow_done  : if all cells are carried over, every basis word leads from p back to p
--   follow_stuck : if one cannot be, some basis word does not
--   Behind N old work <-> the cells from N on, and the length, are as they were
-- Assumes nothing.
use mathlib.Core.Path.{◌≡◌, refl, sym, ◌∙◌, ap, subst}
use mathlib.Core.Logic.{◌⊎◌, inl, inr, ⊎_elim, by_cases}
use mathlib.Core.Bool.{true, false}
use mathlib.Core.List.{List, ◌++◌, append_assoc}
use Prim.Native.Nat.{ℕ, suc, ◌+◌, ◌*◌, ◌≤◌, ◌<◌}
use native.Mathlib.Decide.{ℕ_discrete}
use native.Mathlib.Numerals.{add-one}
use native.Mathlib.Omega.{arith}
use lib.ListN.{length, get_or, set, drop, replicate, length-set, length-replicate, replicate-append-replicate}
use Rattle.std.specs.declared.option.Option.{Option}
use Rattle.std.specs.declared.option.Option.TheVariants.{None, Some}
use lib.Seq.{get_or-set_same, get_or-set_other, drop-set-lt, drop_at}
use Rattle.theory.specs.Letters.{usual}
use Rattle.theory.specs.Tables.{absent, Cells, Leads, Reads, cell}
use Rattle.theory.specs.Basis.{path_of, leads_back}
use Rattle.theory.proofs.PlaceLaws.{fails, ComesBefore, before_row}
use Rattle.theory.proofs.TableLaws.{length_usual, get_or_usual}
use Rattle.theory.proofs.OneTable.{reads_within, reads_snoc}
use Rattle.theory.proofs.PathLaws.{spot, Step, leads_in, path_base, path_step}
use Rattle.cells.specs.Filled.{filled}
use Rattle.cells.proofs.FillTurn.{length_filled}
use Rattle.tables.proofs.LentLaws.{IsSound, sound_setting}
use Rattle.paths.specs.Notes.{is_new}
use Rattle.paths.proofs.NoteLaws.{new_none, new_some}
use Rattle.paths.proofs.MetLaws.{Met, met_first, met_before, row_met, met_old, first_here, next_here, met_new, met_row}
use Rattle.normals.specs.Maps.{carried_met, carried_cells}
use Rattle.normals.proofs.BackLaws.{Image, image_there, image_step, maps_back}
use Rattle.normals.proofs.CarryLaws.{Passed, New, Same, Apart, carried_cases}
use borrow.Author.Tests.{lt-ltb, le-ltb}

pub record Follow (n N : ℕ) (t : List ℕ) (p v y g : ℕ) (work : List ℕ) : Type 0 where
  pub passed : Met n N t v y g
  pub images : (x : ℕ) → x ≤ g → Image (cell n N t) N (usual n) p x (get_or work x 0)
  pub kept : (u j : ℕ) → ComesBefore u j v y → j < 2 * n → (cell n N t u j ≡ absent → ⊥)
      → Leads (cell n N t) (get_or work u 0) j (get_or work (cell n N t u j) 0)
  pub room_for : N ≤ length work

-- the length, and the cells behind the images, are as they were
pub record Behind (N : ℕ) (old work : List ℕ) : Type 0 where
  pub size : length work ≡ length old
  pub rest : drop N work ≡ drop N old

pub behind_same : {N : ℕ} {work : List ℕ} → Behind N work work
behind_same = record { size = refl; rest = refl }

pub behind_then : {N : ℕ} {a b d : List ℕ} → Behind N a b → Behind N b d → Behind N a d
behind_then h k = record { size = k.size ∙ h.size; rest = k.rest ∙ h.rest }

-- a cell of the images is set
pub behind_set : (N : ℕ) (work : List ℕ) (x i : ℕ) {after : List ℕ} → x < N → after ≡ set work x i → Behind N work after
behind_set N work x i h e =
    record { size = ap length e ∙ length-set work x i; rest = ap (drop N) e ∙ drop-set-lt N work x i h }

-- the images are cleared
pub behind_cleared : (N : ℕ) (old work : List ℕ) {after : List ℕ} → Behind N old work → after ≡ filled N 0 work → after ≡ filled N 0 old
unfolding filled
behind_cleared N old work b e = e ∙ ap (λ l. replicate N 0 ++ l) b.rest

-- so the length is kept
pub cleared_size : (N : ℕ) (old : List ℕ) {after : List ℕ} → N ≤ length old → after ≡ filled N 0 old → length after ≡ length old
cleared_size N old h e = ap length e ∙ length_filled N 0 old h

-- what is cleared twice is cleared as far as the first time
pub cleared_again : (N m : ℕ) (l : List ℕ) → filled N 0 (filled (N + m) 0 l) ≡ filled (N + m) 0 l
unfolding filled
cleared_again N m l =
    ap (λ d. replicate N 0 ++ d) (ap (drop N) parts ∙ drop_at (replicate N 0) (replicate m 0 ++ drop (N + m) l) N (length-replicate N 0)) ∙ sym parts
  where
    parts : replicate (N + m) 0 ++ drop (N + m) l ≡ replicate N 0 ++ (replicate m 0 ++ drop (N + m) l)
    parts = ap (λ r. r ++ drop (N + m) l) (sym (replicate-append-replicate N m 0)) ∙ append_assoc (replicate N 0) (replicate m 0) (drop (N + m) l)

-- a place before the next one is before this one, or this one
before_suc : (u j v y : ℕ) → ComesBefore u j v (suc y) → ComesBefore u j v y ⊎ ((u ≡ v) × (j ≡ y))
before_suc u j v y (inl h) = inl (inl h)
before_suc u j v y (inr h) =
    by_cases (ℕ_discrete j y) (λ e. inr (h.0, e)) (λ e. inl (inr (h.0, omega (arith, h.1))))

-- a place of the rows before the next one is before the end of this one
before_next : (u j v y : ℕ) → j < y → ComesBefore u j (suc v) 0 → ComesBefore u j v y
before_next u j v y k (inl h) = by_cases (ℕ_discrete u v) (λ e. inr (e, k)) (λ e. inl (omega arith))
before_next u j v y k (inr h) = absurd (omega (arith, h.1))

module _ {n N : ℕ} {t : List ℕ} (R : IsSound n N t) {p : ℕ} (hp : p < N) where
  abbrev c : Cells
  c = cell n N t

  pub follow_first : (old : List ℕ) {work : List ℕ} → N ≤ length old → work ≡ set old 0 p → Follow n N t p 0 0 0 work
  follow_first old r e =
      let b = R.lent.based in
      subst (Follow n N t p 0 0 0) (sym e)
      (record {
        passed = met_first R;
        images = λ x h. subst (λ z. Image c N (usual n) p z (get_or (set old 0 p) z 0)) (omega arith)
            (subst (λ w. Reads (Leads c) p w (get_or (set old 0 p) 0 0)) (sym (path_base (sound_setting R)))
            (sym (get_or-set_same old 0 p 0 (omega arith))));
        kept = λ u j h. absurd (⊎_elim (λ k. omega arith) (λ k. omega (arith, k.1)) h);
        room_for = omega (arith, length-set old 0 p);
      })

  module _ {v y g : ℕ} {work : List ℕ} (F : Follow n N t p v y g work) where
    image_in : (x : ℕ) → x ≤ g → get_or work x 0 < N
    image_in x h = reads_within R.canonical p (path_of c N (usual n) x) (get_or work x 0) hp (F.images x h)

    module _ (hv : v < N) (hy : y < 2 * n) where
      v_met : v ≤ g
      v_met = row_met R F.passed v (omega arith) hv

      -- the row's own point has its image
      pub follow_image : get_or work v 0 < N
      follow_image = image_in v v_met

      turn_passed : {m : Option ℕ} {after : List ℕ} → Passed c work v y g m after → Follow n N t p v (suc y) g work
      turn_passed P =
          record {
            passed = met_old R F.passed hv hy (sym (new_none g (c v y) P.nowhere));
            images = F.images;
            kept = λ u j h b m.
                ⊎_elim (λ k. F.kept u j k b m) (λ k. absurd (m (cc (k.0, k.1, P.nowhere)))) (before_suc u j v y h);
            room_for = F.room_for;
          }

      turn_same : {m : Option ℕ} {after : List ℕ} → Same c work v y g m after → Follow n N t p v (suc y) g work
      turn_same P =
          record {
            passed = met_old R F.passed hv hy (sym (new_some g (c v y) P.there) ∙ le-ltb g (c v y) P.seen);
            images = F.images;
            kept = λ u j h b m. ⊎_elim (λ k. F.kept u j k b m) (λ k. here u j k.0 k.1) (before_suc u j v y h);
            room_for = F.room_for;
          }
        where
          here : (u j : ℕ) → u ≡ v → j ≡ y → Leads c (get_or work u 0) j (get_or work (c u j) 0)
          here u j e f =
              subst (λ z. Leads c (get_or work z 0) j (get_or work (c z j) 0)) (sym e)
              (subst (λ z. Leads c (get_or work v 0) z (get_or work (c v z) 0)) (sym f)
              (sym P.agree, λ z. P.on (sym P.agree ∙ z)))

      turn_new : {m : Option ℕ} {after : List ℕ} → New c work v y g m after
          → Follow n N t p v (suc y) (c v y) (set work (c v y) (c (get_or work v 0) y))
      turn_new P =
          record {
            passed = met_new R F.passed hv hy new;
            images = λ x h. by_cases (ℕ_discrete x (c v y)) (λ e. subst (λ z. Image c N (usual n) p z (get_or after z 0)) (sym e) image_new)
                (λ e. subst (Image c N (usual n) p x) (sym (same x (omega (arith, next)))) (F.images x (omega (arith, next))));
            kept = λ u j h b m. ⊎_elim (λ k. before u j k b m) (λ k. here u j k.0 k.1) (before_suc u j v y h);
            room_for = omega (arith, F.room_for, length-set work (c v y) i);
          }
        where
          i : ℕ
          i = c (get_or work v 0) y

          after : List ℕ
          after = set work (c v y) i

          new : is_new g (c v y) ≡ true
          new = sym (new_some g (c v y) P.there) ∙ lt-ltb g (c v y) P.beyond

          next : c v y ≤ suc g
          next = next_here R F.passed hv hy new

          hx : c v y < N
          hx = R.canonical.within v y (c v y) (refl, P.there)

          same : (x : ℕ) → x ≤ g → get_or after x 0 ≡ get_or work x 0
          same x h = get_or-set_other work (c v y) x i 0 (λ e. omega (arith, P.beyond))

          hit : get_or after (c v y) 0 ≡ i
          hit = get_or-set_same work (c v y) i 0 (omega (arith, F.room_for, hx))

          image_new : Image c N (usual n) p (c v y) (get_or after (c v y) 0)
          image_new =
              let step : Step c N (usual n) (spot v y) (c v y) = (λ z. omega (arith, P.beyond), first_here R F.passed hv hy new) in
              subst (Image c N (usual n) p (c v y)) (sym hit)
              (subst (λ w. Reads (Leads c) p w i) (sym (path_step (sound_setting R) (spot v y) (c v y) step hx))
              (reads_snoc (Leads c) p (path_of c N (usual n) v) (get_or work v 0) y i (F.images v v_met) (refl, P.on)))

          before : (u j : ℕ) → ComesBefore u j v y → j < 2 * n → (c u j ≡ absent → ⊥) → Leads c (get_or after u 0) j (get_or after (c u j) 0)
          before u j h b m =
              let k = before_row u j v y h in
              let a = same u (row_met R F.passed u k (omega arith)) in
              let d = same (c u j) (met_before R F.passed u j h b m) in
              subst (λ z. Leads c z j (get_or after (c u j) 0)) (sym a) (subst (Leads c (get_or work u 0) j) (sym d) (F.kept u j h b m))

          here : (u j : ℕ) → u ≡ v → j ≡ y → Leads c (get_or after u 0) j (get_or after (c u j) 0)
          here u j e f =
              subst (λ z. Leads c (get_or after z 0) j (get_or after (c z j) 0)) (sym e)
              (subst (λ z. Leads c (get_or after v 0) z (get_or after (c v z) 0)) (sym f)
              (subst (λ z. Leads c z y (get_or after (c v y) 0)) (sym (same v v_met)) (sym hit, λ z. P.on (sym hit ∙ z))))

      apart_false : {m : Option ℕ} {after : List ℕ} → Apart c work v y g m after → leads_back c N (usual n) p ≡ false
      apart_false P = fails (leads_back c N (usual n) p) (λ back. ⊎_elim (gone back) (other back) P.why)
        where
          gone : leads_back c N (usual n) p ≡ true → c (get_or work v 0) y ≡ absent → ⊥
          gone back e =
              let b = image_there (sound_setting R) p back (c v y) (R.canonical.within v y (c v y) (refl, P.there)) in
              let s = image_step (sound_setting R) p back v y (c v y) (get_or work v 0) b.0 (refl, P.there) (F.images v v_met) b.1 in
              s.1 (sym s.0 ∙ e)

          other : leads_back c N (usual n) p ≡ true → (c v y ≤ g) × (get_or work (c v y) 0 ≡ c (get_or work v 0) y → ⊥) → ⊥
          other back d =
              d.1 (sym (image_step (sound_setting R) p back v y (c v y) (get_or work v 0) (get_or work (c v y) 0) (refl, P.there)
              (F.images v v_met) (F.images (c v y) d.0)).0)

      module _ {o : Option ℕ} {after : List ℕ} (q : o ≡ carried_met c work v y g) (r : after ≡ carried_cells c work v y g) where
        pub follow_turn : {m : ℕ} → o ≡ Some m → Follow n N t p v (y + 1) m after
        follow_turn {m} a =
            rw (add-one y)
            (⊎_elim (λ P. at (is P.met) P.cells (turn_passed P))
            (⊎_elim (λ P. at (is P.met) P.cells (turn_new P))
            (⊎_elim (λ P. at (is P.met) P.cells (turn_same P)) (λ P. absurd (let z : Some m ≡ None = sym a ∙ P.met in cc))))
            (carried_cases c work v y g q r))
          where
            is : {k : ℕ} → o ≡ Some k → m ≡ k
            is {k} e = let z : Some m ≡ Some k = sym a ∙ e in cc

            at : {k : ℕ} {l : List ℕ} → m ≡ k → after ≡ l → Follow n N t p v (suc y) k l → Follow n N t p v (suc y) m after
            at e f h =
                subst (λ k. Follow n N t p v (suc y) k after) (sym e) (subst (Follow n N t p v (suc y) _) (sym f) h)

        pub follow_stuck : o ≡ None → leads_back c N (usual n) p ≡ false
        follow_stuck a =
            ⊎_elim (λ P. absurd (some P.met)) (⊎_elim (λ P. absurd (some P.met)) (⊎_elim (λ P. absurd (some P.met)) apart_false))
            (carried_cases c work v y g q r)
          where
            some : {k : ℕ} → o ≡ Some k → ⊥
            some {k} e = let z : Some k ≡ None = sym e ∙ a in cc

        -- only an image is set
        pub behind_turn : Behind N work after
        behind_turn =
            ⊎_elim (λ P. none P.cells)
            (⊎_elim (λ P. behind_set N work (c v y) (c (get_or work v 0) y) (R.canonical.within v y (c v y) (refl, P.there)) P.cells)
            (⊎_elim (λ P. none P.cells) (λ P. none P.cells)))
            (carried_cases c work v y g q r)
          where
            none : after ≡ work → Behind N work after
            none e = subst (Behind N work) (sym e) behind_same

    -- after the last cell of a row comes the first of the next
    pub follow_row : v < N → 2 * n ≤ y → Follow n N t p (v + 1) 0 g work
    follow_row h k =
        rw (add-one v)
        (record {
          passed = met_row R F.passed h k;
          images = F.images;
          kept = λ u j b d m. F.kept u j (before_next u j v y (omega arith) b) d m;
          room_for = F.room_for;
        })

    pub follow_done : N ≤ v → leads_back c N (usual n) p ≡ true
    follow_done h =
        subst (λ z. leads_back c N (usual n) z ≡ true) (sym base)
        (maps_back (sound_setting R) (λ x. get_or work x 0) keeps)
      where
        base : p ≡ get_or work 0 0
        base = subst (λ w. Reads (Leads c) p w (get_or work 0 0)) (path_base (sound_setting R)) (F.images 0 (omega arith))

        keeps : (u j x : ℕ) → Leads c u j x → Leads c (get_or work u 0) j (get_or work x 0)
        keeps u j x l =
            let b = leads_in (sound_setting R) u j x l in
            let i : j < 2 * n = omega (arith, length_usual n, get_or_usual n b.2.0 (omega (arith, length_usual n, b.2.1)), b.2.1, b.2.2) in
            subst (λ z. Leads c (get_or work u 0) j (get_or work z 0)) l.0 (F.kept u j (inl (omega arith)) i (λ e. l.1 (sym l.0 ∙ e)))
