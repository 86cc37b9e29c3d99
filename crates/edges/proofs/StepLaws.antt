-- Where points are first met, read off their own rows (`specs/Steps`), and the edges that no path uses.
--   back_absent, back_there : the place of the cell that leads back
--   Least c N w x z least <-> `least` is the least place back from x by the letters below z, or lies behind all places
--   least_turn, least_done : so it is after a letter more; and at the end it is where x is first met
--   first_least : no cell before the place where x is first met holds x
--   forth_test, back_test : a path's last step is told by places, in either direction
--   outside_loop, outside_back, outside_forth : the test for an edge that no path uses, asked of its greater end
-- Assumes nothing.
use mathlib.Core.Path.{◌≡◌, refl, sym, ◌∙◌, ap}
use mathlib.Core.Logic.{◌⊎◌, inl, inr, ⊎_elim, by_cases}
use mathlib.Core.Bool.{Bool, true, false, cond, not, ◌&&◌, ◌||◌}
use mathlib.Core.Option.{Option, none, some, some-injective, none-ne-some}
use mathlib.Core.List.{List}
use Prim.Native.Nat.{ℕ, ◌+◌, ◌*◌, ◌≤◌, ◌<◌, min}
use native.Mathlib.Decide.{ℕ_discrete, dec_lt}
use native.Mathlib.Numerals.{add-one}
use native.Mathlib.Omega.{arith}
use lib.Dec.{eqb}
use lib.ListN.{length, get_or}
use borrow.Author.Tests.{eq-eqb, ne_eqb, eqb-true}
use Rattle.theory.specs.Words.{inv}
use Rattle.theory.specs.Letters.{usual}
use Rattle.theory.specs.Tables.{absent, Cells, Leads, cell}
use Rattle.theory.specs.Canonical.{Place, first_place}
use Rattle.theory.specs.Basis.{Spot, spot_at, first_met, is_spot, is_path_step, is_path_edge}
use Rattle.theory.proofs.WordLaws.{letters}
use Rattle.theory.proofs.RefusalLaws.{and_true}
use Rattle.theory.proofs.TableLaws.{length_usual, get_or_usual, row_below}
use Rattle.theory.proofs.PlaceLaws.{passes_fails, fails, ComesBefore, IsFirst, position_of_before, before_cases, first_place_some, first_place_is, first_place_is_none}
use Rattle.theory.proofs.PathLaws.{spot, Step, leads_in, met, step_leads}
use Rattle.theory.proofs.EdgeLaws.{is_path_step_sound}
use Rattle.tables.proofs.LentLaws.{IsSound, sound_setting}
use Rattle.tables.proofs.CellTurn.{or_false}
use Rattle.edges.specs.Edges.{is_outside}
use Rattle.edges.specs.Steps.{place_back, place_of, step_place}

module _ (c : Cells) (N w x z : ℕ) where
  back_absent : c x z ≡ absent → place_back c N w x z ≡ N * w
  back_absent e = rw (eq-eqb (c x z) absent e)

  back_there : (c x z ≡ absent → ⊥) → place_back c N w x z ≡ c x z * w + inv z
  back_there e = rw (ne_eqb (c x z) absent e)

pub record Least (c : Cells) (N w x z least : ℕ) : Type 0 where
  pub lower : (k : ℕ) → k < z → least ≤ place_back c N w x k
  pub held : (least ≡ N * w) ⊎ ((k : ℕ) × (k < z) × (least ≡ place_back c N w x k))

module _ (c : Cells) (N w x : ℕ) where
  -- the lesser of the two, once a letter more is passed
  pub least_turn : {z least at : ℕ} → Least c N w x z least → at ≡ place_back c N w x z → Least c N w x (z + 1) (min least at)
  least_turn {z} {least} {at} L e =
      rw (add-one z)
      (record {
        lower = λ k l. by_cases (ℕ_discrete k z) (λ q. omega (arith, e, ap (place_back c N w x) q)) (λ q. omega (arith, L.lower k (omega arith)));
        held = by_cases (dec_lt at least)
            (λ b. inr (z, omega arith, omega (arith, e))) (λ b. ⊎_elim (λ q. inl (omega (arith, q))) (λ s. inr (s.0, omega (arith, s.1), omega (arith, s.2))) L.held);
      })

module _ {n N : ℕ} {t : List ℕ} (S : IsSound n N t) where
  abbrev c : Cells
  c = cell n N t

  abbrev w : ℕ
  w = 2 * n

  -- a letter that leads somewhere is one of the table's, between points
  leads_small : (v y x : ℕ) → Leads (cell n N t) v y x → (v < N) × (x < N) × (y < 2 * n)
  leads_small v y x l =
      let b = leads_in (sound_setting S) v y x l in
      (b.0, b.1, omega (arith, length_usual n, b.2.1, b.2.2, get_or_usual n b.2.0 (omega (arith, length_usual n, b.2.1))))

  -- a point is not the absent mark
  point_there : (x : ℕ) → x < N → x ≡ absent → ⊥
  point_there x h e = omega (arith, S.lent.points)

  -- a cell that holds x is the place back by its inverse letter
  place_again : (u j x : ℕ) → Leads c u j x → place_back c N w x (inv j) ≡ u * w + j
  place_again u j x l =
      let b = S.canonical.inverse u j x l in
      back_there c N w x (inv j) (λ e. b.1 (sym b.0 ∙ e)) ∙ ap (λ k. k * w + inv (inv j)) b.0 ∙ ap (λ k. u * w + k) (letters.twice j)

  inverse_small : (j : ℕ) → j < 2 * n → inv j < 2 * n
  unfolding inv
  inverse_small j h = omega arith

  module _ {x z least : ℕ} (L : Least (cell n N t) N (2 * n) x z least) (hz : 2 * n ≤ z) (hx : x < N) where
    -- no cell that holds x stands before the least place
    above : (u j : ℕ) → c u j ≡ x → least ≤ u * w + j
    above u j q =
        let l : Leads c u j x = (q, point_there x hx) in
        let b = leads_small u j x l in
        omega (arith, place_again u j x l, L.lower (inv j) (omega (arith, inverse_small j b.2)))

    -- the test for cells that hold x
    abbrev holds : ℕ → ℕ → Bool
    holds u i = eqb (c u (get_or (usual n) i 0)) x

    nowhere : least ≡ N * w → least ≡ place_of N w (first_met c N (usual n) x)
    unfolding first_met
    nowhere e =
        e ∙ sym (ap (λ o. place_of N w (spot_at (usual n) o)) (first_place_is_none holds N (length (usual n)) clear))
      where
        clear : (u j : ℕ) → u < N → j < length (usual n) → holds u j ≡ false
        clear u j hu hj =
            let h : j < 2 * n = omega (arith, length_usual n) in
            ne_eqb (c u (get_or (usual n) j 0)) x
            (λ q. omega (arith, e, above u j (ap (c u) (sym (get_or_usual n j h)) ∙ q), row_below N w u hu))

    there : (k : ℕ) → (c x k ≡ absent → ⊥) → least ≡ place_back c N w x k → least ≡ place_of N w (first_met c N (usual n) x)
    unfolding first_met
    there k m e =
        place
        ∙ sym (ap (λ o. place_of N w (spot_at (usual n) o)) (first_place_is holds N (length (usual n)) (c x k) (inv k) here) ∙ ap (λ i. c x k * w + i) (get_or_usual n (inv k) small))
      where
        lead : Leads c (c x k) (inv k) x
        lead = S.canonical.inverse x k (c x k) (refl, m)

        place : least ≡ c x k * w + inv k
        place = e ∙ back_there c N w x k m

        small : inv k < 2 * n
        small = (leads_small (c x k) (inv k) x lead).2

        here : IsFirst holds N (length (usual n)) (c x k) (inv k)
        here =
            record {
              row_in = (leads_small (c x k) (inv k) x lead).0;
              index_in = omega (arith, length_usual n, small);
              passes = eq-eqb (c (c x k) (get_or (usual n) (inv k) 0)) x (ap (c (c x k)) (get_or_usual n (inv k) small) ∙ lead.0);
              none_before = λ u j b hj.
                  let h : j < 2 * n = omega (arith, length_usual n) in
                  ne_eqb (c u (get_or (usual n) j 0)) x
                  (λ q. omega (arith, place, above u j (ap (c u) (sym (get_or_usual n j h)) ∙ q), position_of_before w u j (c x k) (inv k) h b));
            }

    least_place : least ≡ place_of N w (first_met c N (usual n) x)
    least_place =
        ⊎_elim nowhere
        (λ s. by_cases (ℕ_discrete (c x s.0) absent) (λ e. nowhere (s.2 ∙ back_absent c N w x s.0 e)) (λ m. there s.0 m s.2))
        L.held

    pub least_done : (x ≡ 0 → ⊥) → least ≡ step_place n N t x
    unfolding step_place
    least_done q = least_place ∙ sym (rw (ne_eqb x 0 q))

  -- the base has no last step
  pub base_place : {x least : ℕ} → least ≡ N * (2 * n) → x ≡ 0 → least ≡ step_place n N t x
  unfolding step_place
  base_place {x} e q = e ∙ sym (rw (eq-eqb x 0 q))

  -- no cell before the place where x is first met holds x
  pub first_least : (v y x : ℕ) → Step (cell n N t) N (usual n) (spot v y) x → (u j : ℕ) → ComesBefore u j v y → j < 2 * n → cell n N t u j ≡ x → ⊥
  unfolding first_met
  first_least v y x s u j b h q = go (first_place f N (length (usual n))) refl
    where
      f : ℕ → ℕ → Bool
      f u i = eqb (c u (get_or (usual n) i 0)) x

      go : (o : Option Place) → first_place f N (length (usual n)) ≡ o → ⊥
      go none e = none-ne-some (spot v y) (sym (ap (spot_at (usual n)) e) ∙ s.1)
      go (some p) e =
          let g = first_place_some f N (length (usual n)) p e in
          let r = some-injective (spot p.row (get_or (usual n) p.index 0)) (spot v y) (sym (ap (spot_at (usual n)) e) ∙ s.1) in
          let i : p.index ≡ y = sym (get_or_usual n p.index (omega (arith, length_usual n, g.index_in))) ∙ ap (λ (a : Spot). a.letter) r in
          let a : p.row ≡ v = ap (λ (a : Spot). a.point) r in
          passes_fails (eq-eqb (c u (get_or (usual n) j 0)) x (ap (c u) (get_or_usual n j h) ∙ q))
          (g.none_before u j (⊎_elim (λ k. inl (omega (arith, a))) (λ k. inr (omega (arith, a, k.0), omega (arith, i, k.1))) b) (omega (arith, length_usual n)))

  -- of two places in rows one spot
  same_place : (v y u j : ℕ) → y < w → j < w → v * w + y ≡ u * w + j → (u ≡ v) × (j ≡ y)
  same_place v y u j h k e =
      ⊎_elim (λ b. absurd (omega (arith, e, position_of_before w v y u j h b)))
      (⊎_elim (λ b. absurd (omega (arith, e, position_of_before w u j v y k b))) (λ q. (sym q.0, sym q.1))) (before_cases v y u j)

  -- a letter is the last step of the path of the point that it leads to exactly if its place is that of the last step
  pub forth_test : (v y x : ℕ) → Leads (cell n N t) v y x → is_path_step (cell n N t) N (usual n) v y ≡ eqb (v * (2 * n) + y) (step_place n N t x)
  unfolding step_place is_path_step
  forth_test v y x l =
      by_cases (ℕ_discrete x 0)
      (λ z. rw (l.0, eq-eqb x 0 z) (sym (ne_eqb (v * w + y) (N * w) (λ q. omega (arith, q, b.2, row_below N w v b.0)))))
      (λ z. let m = met (sound_setting S) x z b.1 in at z m.0.point m.0.letter m.1.1 m.3)
    where
      b : (v < N) × (x < N) × (y < 2 * n)
      b = leads_small v y x l

      at : (x ≡ 0 → ⊥) → (u j : ℕ) → first_met c N (usual n) x ≡ some (spot u j) → Leads c u j x
          → (not (eqb (c v y) 0) && is_spot v y (first_met c N (usual n) (c v y))) ≡ eqb (v * w + y) (cond (eqb x 0) (N * w) (place_of N w (first_met c N (usual n) x)))
      at z u j e k =
          rw (l.0, ne_eqb x 0 z, e)
          (by_cases (ℕ_discrete (v * w + y) (u * w + j))
          (λ q. let s = same_place v y u j b.2 (leads_small u j x k).2 q in
          rw (eq-eqb (v * w + y) (u * w + j) q, eq-eqb u v s.0, eq-eqb j y s.1))
          (λ q. rw (ne_eqb (v * w + y) (u * w + j) q)
          (fails (eqb u v && eqb j y) (λ d. let a = and_true (eqb u v) (eqb j y) d in
          q (sym (ap (λ i. i * w + y) (eqb-true u v a.0)) ∙ ap (λ i. u * w + i) (sym (eqb-true j y a.1)))))))

  module _ (v y x : ℕ) (l : Leads (cell n N t) v y x) where
    back : Leads c x (inv y) v
    back = S.canonical.inverse v y x l

    -- the way back is a last step exactly if its place is that of the last step to v
    pub back_test : is_path_step (cell n N t) N (usual n) x (inv y) ≡ eqb (place_back (cell n N t) N (2 * n) v y) (step_place n N t v)
    back_test =
        forth_test x (inv y) v back
        ∙ ap (λ k. eqb k (step_place n N t v)) (sym (back_there c N w v y (λ e. l.1 (sym l.0 ∙ e)) ∙ ap (λ k. k * w + inv y) l.0))

    -- a last step leads to a greater point
    pub no_step : x ≤ v → is_path_step (cell n N t) N (usual n) v y ≡ false
    no_step h =
        fails (is_path_step c N (usual n) v y)
        (λ e. omega (arith, (step_leads (sound_setting S) (spot v y) x (is_path_step_sound c N (usual n) v y x l.0 e) (leads_small v y x l).1).0))

  module _ (v y : ℕ) {x : ℕ} (q : x ≡ cell n N t v y) (m : cell n N t v y ≡ absent → ⊥) where
    lead : Leads c v y x
    lead = (sym q, λ e. m (sym q ∙ e))

    -- the test for an edge that no path uses, in both directions
    outside_is : is_outside c N (usual n) v y ≡ not (is_path_step c N (usual n) v y || is_path_step c N (usual n) x (inv y))
    unfolding is_outside is_path_edge
    outside_is = ap (λ u. not (is_path_step c N (usual n) v y || is_path_step c N (usual n) u (inv y))) (sym q)

    no_back : v ≤ x → is_path_step c N (usual n) x (inv y) ≡ false
    no_back h = no_step x (inv y) v (S.canonical.inverse v y x lead) h

    pub outside_loop : x ≡ v → true ≡ is_outside (cell n N t) N (usual n) v y
    outside_loop e = sym (outside_is ∙ rw (no_step v y x lead (omega arith), no_back (omega arith)))

    pub outside_back : {a b : ℕ} → x < v → a ≡ place_back (cell n N t) N (2 * n) v y → b ≡ step_place n N t v
        → not (eqb a b) ≡ is_outside (cell n N t) N (usual n) v y
    outside_back h d e = sym (outside_is ∙ rw (no_step v y x lead (omega arith), back_test v y x lead, d, e))

    pub outside_forth : {b : ℕ} → v ≤ x → b ≡ step_place n N t x
        → not (eqb (v * (2 * n) + y) b) ≡ is_outside (cell n N t) N (usual n) v y
    outside_forth h e = sym (outside_is ∙ rw (no_back h, forth_test v y x lead, e) (ap not (or_false (eqb (v * w + y) (step_place n N t x)))))
