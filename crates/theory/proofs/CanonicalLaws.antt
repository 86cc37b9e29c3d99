-- The canonical rules and the faulty cell that is computed say the same (`specs/Canonical`).
--   Lowest N ys c v i    <-> place i of row v is the lowest cell of a broken rule
--   LowestCell n N t v y <-> so is the cell of letter y at v, by position in document 01's table t
--   canonical_none, none_canonical : a table is canonical exactly if no cell is faulty
--   faulty_lowest, lowest_faulty   : the faulty cell is the lowest cell of a broken rule
-- `Bounded` is asked for as a letter beyond ys could meet a point, or break a rule, unseen; `Once` as a letter that
-- stands twice would count as two cells. Assumes nothing.
use mathlib.Core.Path.{◌≡◌, refl, sym, ◌∙◌, ap, subst}
use mathlib.Core.Logic.{◌⊎◌, inl, inr, ⊎_elim, by_cases}
use mathlib.Core.Bool.{true, false, not, ◌&&◌}
use mathlib.Core.Option.{Option, none, some, some-injective}
use mathlib.Core.List.{List}
use Prim.Native.Nat.{ℕ, suc, ◌+◌, ◌*◌, ◌≤◌, ◌<◌}
use native.Mathlib.Decide.{dec_lt}
use native.Mathlib.Omega.{arith}
use lib.Dec.{eqb}
use lib.ListN.{length, get_or}
use Rattle.theory.specs.Words.{inv}
use Rattle.theory.specs.Letters.{usual}
use Rattle.theory.specs.Tables.{absent, Cells, Leads, cell}
pub use Rattle.theory.specs.Canonical.{LowestCell}
use Rattle.theory.specs.Canonical.{
  row_of,
  rows_before,
  earlier,
  greatest_met,
  Canonical,
  BrokenCell,
  BrokenRow,
  Broken,
  present,
  is_in,
  breaks_cell,
  breaks_row,
  is_faulty,
  Place,
  first_place,
  position_of,
  faulty_cell,
}
use Rattle.theory.proofs.WordLaws.{by_test}
use Rattle.theory.proofs.TableLaws.{StandsIn, Bounded, Once, length_usual, get_or_usual, usual_once, cell_bounded}
use Rattle.theory.proofs.PlaceLaws.{
  passes_fails,
  fails,
  Tells,
  tells_itself,
  tells_same,
  tells_not,
  tells_and,
  tells_or,
  tells_eqb,
  tells_ltb,
  tells_leb,
  ComesBefore,
  before_row,
  position_of_before,
  before_of_position,
  IsFirst,
  first_place_some,
  first_place_none,
  first_place_is,
  first_place_is_none,
}
use Rattle.theory.proofs.RowLaws.{
  is_in_sound,
  is_in_complete,
  cell_of_rows_before,
  rows_before_of_cell,
  HasTwo,
  present_sound,
  present_complete,
}

-- ── The tests and their meaning ──

leads_tells : (c : Cells) (u y v : ℕ) → Tells (eqb (c u y) v && not (eqb v absent)) (Leads c u y v)
leads_tells c u y v = tells_and (tells_eqb (c u y) v) (tells_not (tells_eqb v absent))

-- a letter that leads somewhere has a cell that is not absent
leads_cell : (c : Cells) (v y x : ℕ) → Leads c v y x → c v y ≡ absent → ⊥
leads_cell c v y x l e = l.1 (sym l.0 ∙ e)

-- letter y at v, where g was met, breaks one of the first three rules by leading to x: `BrokenCell` of any y and g
abbrev Breaks : ℕ → Cells → ℕ → ℕ → ℕ → ℕ → Type 0
Breaks N c v y g x = (N ≤ x) ⊎ ((Leads c x (inv y) v → ⊥) ⊎ (suc g < x))

breaks_tells : (N : ℕ) (c : Cells) (v y g : ℕ)
    → Tells (breaks_cell N c v y g) ((x : ℕ) × Leads c v y x × Breaks N c v y g x)
unfolding breaks_cell
breaks_tells N c v y g =
    tells_same
    (tells_and (tells_not (tells_eqb (c v y) absent))
    (tells_or (tells_leb N (c v y))
    (tells_or (tells_not (leads_tells c (c v y) (inv y) v)) (tells_ltb (suc g) (c v y)))))
    (λ h. (c v y, (refl, h.0), h.1))
    (λ b. (leads_cell c v y b.0 b.1, subst (Breaks N c v y g) (sym b.1.0) b.2))

-- place i of row v is the lowest cell of a broken rule
pub record Lowest (N : ℕ) (ys : List ℕ) (c : Cells) (v i : ℕ) : Type 0 where
  pub row_in : v < N
  pub index_in : i < length ys
  pub broken : Broken N ys c v i
  pub none_before : (u j : ℕ) → ComesBefore u j v i → j < length ys → Broken N ys c u j → ⊥

module _ (N : ℕ) (ys : List ℕ) (c : Cells) where
  -- the greatest point met before place i of row v
  abbrev met : ℕ → ℕ → ℕ
  met v i = greatest_met (earlier c ys v i)

  -- row v has no cell before it that leads there, or fewer than two cells, as tests see it
  abbrev RowFails : ℕ → Type 0
  RowFails v = (0 < v) × ((StandsIn (rows_before c ys v) v → ⊥) ⊎ (present (row_of c ys v) < 2))

  -- a cell that the test finds breaks one of the first three rules
  pub breaks_cell_sound : (v i : ℕ) → breaks_cell N c v (get_or ys i 0) (met v i) ≡ true → BrokenCell N ys c v i
  breaks_cell_sound v i = (breaks_tells N c v (get_or ys i 0) (met v i)).sound

  -- the test finds a cell that breaks one of the first three rules
  pub breaks_cell_complete : (v i : ℕ) → BrokenCell N ys c v i → breaks_cell N c v (get_or ys i 0) (met v i) ≡ true
  breaks_cell_complete v i = (breaks_tells N c v (get_or ys i 0) (met v i)).complete

  row_tells : (v : ℕ) → Tells (breaks_row ys c v) (RowFails v)
  unfolding breaks_row
  row_tells v =
      let stands : Tells (is_in v (rows_before c ys v)) (StandsIn (rows_before c ys v) v) =
      record { sound = is_in_sound v (rows_before c ys v); complete = is_in_complete v (rows_before c ys v) } in
      tells_and (tells_ltb 0 v) (tells_or (tells_not stands) (tells_ltb (present (row_of c ys v)) 2))

  -- a row that the test finds breaks one of the last two rules
  pub breaks_row_sound : Bounded c N ys → (v : ℕ) → breaks_row ys c v ≡ true → BrokenRow c v
  breaks_row_sound bounded v e =
      let h = (row_tells v).sound e in (
        h.0,
        ⊎_elim (λ n. inl (λ u y b l. n (met_by u y b l)))
            (λ n. inr (λ y z d a b. omega (arith, present_complete N ys c v bounded (y, z, d, a, b)))) h.1,
      )
    where
      met_by : (u y : ℕ) → u < v → Leads c u y v → StandsIn (rows_before c ys v) v
      met_by u y b l =
          subst (StandsIn (rows_before c ys v)) l.0
          (rows_before_of_cell c ys v u y b (bounded u y (leads_cell c u y v l)).1)

  -- the test finds a row that breaks one of the last two rules; not so where v is the absent mark: nothing leads there,
  -- yet each absent cell is equal to it
  pub breaks_row_complete : Once ys → (v : ℕ) → (v ≡ absent → ⊥) → BrokenRow c v → breaks_row ys c v ≡ true
  breaks_row_complete once v m b =
      (row_tells v).complete
      (b.0, ⊎_elim (λ n. inl (λ s. unmet n (cell_of_rows_before c ys v v s))) (λ n. inr (few n)) b.1)
    where
      unmet : ((u y : ℕ) → u < v → Leads c u y v → ⊥) → (u : ℕ) × (y : ℕ) × (u < v) × StandsIn ys y × (c u y ≡ v) → ⊥
      unmet n r = n r.0 r.1 r.2 (r.4, m)

      few : ((y z : ℕ) → (y ≡ z → ⊥) → (c v y ≡ absent → ⊥) → (c v z ≡ absent → ⊥) → ⊥) → present (row_of c ys v) < 2
      few n =
          by_cases (dec_lt (present (row_of c ys v)) 2) (λ h. h)
          (λ h. let t = present_sound ys c v once (omega arith) in absurd (n t.0 t.1 t.2 t.3 t.4))

  faulty_tells : (v i : ℕ) → Tells (is_faulty N ys c v i) (((i ≡ 0) × (breaks_row ys c v ≡ true)) ⊎ BrokenCell N ys c v i)
  unfolding is_faulty
  faulty_tells v i =
      tells_or (tells_and (tells_eqb i 0) (tells_itself (breaks_row ys c v)))
      (breaks_tells N c v (get_or ys i 0) (met v i))

  -- a place that the test finds is a cell of a broken rule
  pub is_faulty_sound : Bounded c N ys → (v i : ℕ) → is_faulty N ys c v i ≡ true → Broken N ys c v i
  is_faulty_sound bounded v i e =
      ⊎_elim (λ h. inr (h.0, breaks_row_sound bounded v h.1)) inl ((faulty_tells v i).sound e)

  -- the test finds the cells of broken rules, but for the row of the absent mark (`breaks_row_complete`)
  pub is_faulty_complete : Once ys → (v i : ℕ) → (v ≡ absent → ⊥) → Broken N ys c v i → is_faulty N ys c v i ≡ true
  is_faulty_complete once v i m b =
      (faulty_tells v i).complete (⊎_elim inr (λ h. inl (h.0, breaks_row_complete once v m h.1)) b)

  -- ── The rules and the faulty cell ──

  -- the first place that the tests find
  abbrev found_place : Option Place
  found_place = first_place (is_faulty N ys c) N (length ys)

  -- a table that keeps the rules has no broken cell
  canonical_unbroken : Canonical N ys c → (v i : ℕ) → v < N → i < length ys → Broken N ys c v i → ⊥
  canonical_unbroken k v i hv hi b = ⊎_elim cells (λ d. rows d.1) b
    where
      cells : BrokenCell N ys c v i → ⊥
      cells d =
          ⊎_elim (λ h. omega (arith, k.within v (get_or ys i 0) d.0 d.1))
          (⊎_elim (λ n. n (k.inverse v (get_or ys i 0) d.0 d.1))
          (λ h. omega (arith, k.next v i d.0 hi d.1))) d.2

      rows : BrokenRow c v → ⊥
      rows d =
          ⊎_elim (λ n. let e = k.early v d.0 hv in n e.0 e.1 e.2 e.3)
          (λ n. let t = k.two v d.0 hv in n t.0 t.1 t.2 t.3 t.4) d.1

  -- a canonical table has no faulty cell
  pub canonical_none : Bounded c N ys → Canonical N ys c → faulty_cell N ys c ≡ none
  unfolding faulty_cell
  canonical_none bounded k =
      ap (position_of ys) (first_place_is_none (is_faulty N ys c) N (length ys)
      (λ v i hv hi. fails (is_faulty N ys c v i) (λ e. canonical_unbroken k v i hv hi (is_faulty_sound bounded v i e))))

  -- without a faulty cell no place passes the test
  none_clear : faulty_cell N ys c ≡ none → (v i : ℕ) → v < N → i < length ys → is_faulty N ys c v i ≡ false
  unfolding faulty_cell
  none_clear e = first_place_none (is_faulty N ys c) N (length ys) (go found_place e)
    where
      go : (o : Option Place) → position_of ys o ≡ none → o ≡ none
      go none e = refl
      go (some p) e = absurd (let z : ◌≡◌ {A = ℕ} 0 1 = cc in omega arith)

  -- a table without a faulty cell is canonical; without letters no row has a first cell, where a broken rule is placed
  pub none_canonical : Bounded c N ys → Once ys → 0 < length ys → faulty_cell N ys c ≡ none → Canonical N ys c
  none_canonical bounded once letter none-faulty =
      record { within = within; inverse = inverse; next = next; early = early; two = two }
    where
      -- the cell at place i of row v breaks no rule
      whole : (v i : ℕ) → i < length ys → BrokenCell N ys c v i → ⊥
      whole v i h b =
          passes_fails ((faulty_tells v i).complete (inr b))
          (none_clear none-faulty v i (bounded v (get_or ys i 0) (leads_cell c v (get_or ys i 0) b.0 b.1)).0 h)

      -- nor does row v
      calm : (v : ℕ) → v < N → RowFails v → ⊥
      calm v h b =
          passes_fails ((faulty_tells v 0).complete (inl (refl, (row_tells v).complete b)))
          (none_clear none-faulty v 0 h letter)

      -- nor does the cell of letter y
      kept : (v y x : ℕ) → Leads c v y x → (N ≤ x) ⊎ (Leads c x (inv y) v → ⊥) → ⊥
      kept v y x l r =
          let s = (bounded v y (leads_cell c v y x l)).1 in
          whole v s.0 s.1 (subst (λ z. (x : ℕ) × Leads c v z x × Breaks N c v z (met v s.0) x) (sym s.2)
          (x, l, ⊎_elim inl (λ n. inr (inl n)) r))

      within : (v y x : ℕ) → Leads c v y x → x < N
      within v y x l = by_cases (dec_lt x N) (λ h. h) (λ h. absurd (kept v y x l (inl (omega arith))))

      inverse : (v y x : ℕ) → Leads c v y x → Leads c x (inv y) v
      inverse v y x l =
          let t = leads_tells c x (inv y) v in
          by_test (eqb (c x (inv y)) v && not (eqb v absent)) t.sound
          (λ e. absurd (kept v y x l (inr (λ q. passes_fails (t.complete q) e))))

      next : (v i x : ℕ) → i < length ys → Leads c v (get_or ys i 0) x → x ≤ suc (met v i)
      next v i x h l =
          by_cases (dec_lt (suc (met v i)) x) (λ b. absurd (whole v i h (x, l, inr (inr b)))) (λ b. omega arith)

      two : (v : ℕ) → 1 ≤ v → v < N → HasTwo c v
      two v h hv =
          by_cases (dec_lt (present (row_of c ys v)) 2) (λ f. absurd (calm v hv (h, inr f)))
          (λ f. present_sound ys c v once (omega arith))

      -- v is not the absent mark, as the inverse of a letter of its row leads to it
      early : (v : ℕ) → 1 ≤ v → v < N → (u : ℕ) × (y : ℕ) × (u < v) × Leads c u y v
      early v h hv =
          by_test (is_in v (rows_before c ys v))
          (λ e. let r = cell_of_rows_before c ys v v (is_in_sound v (rows_before c ys v) e) in
          let t = two v h hv in (r.0, r.1, r.2, (r.4, (inverse v t.0 (c v t.0) (refl, t.3)).1)))
          (λ e. absurd (calm v hv (h, inl (λ s. passes_fails (is_in_complete v (rows_before c ys v) s) e))))

  -- points are numbered below the absent mark, for `breaks_row_complete`
  module _ (bounded : Bounded c N ys) (once : Once ys) (numbers : N ≤ absent) where
    lowest_of_first : (v i : ℕ) → IsFirst (is_faulty N ys c) N (length ys) v i → Lowest N ys c v i
    lowest_of_first v i f =
        record {
          row_in = f.row_in;
          index_in = f.index_in;
          broken = is_faulty_sound bounded v i f.passes;
          none_before = λ u j b h d.
              let r = before_row u j v i b in
              passes_fails (is_faulty_complete once u j (λ e. omega (arith, f.row_in)) d) (f.none_before u j b h);
        }

    first_of_lowest : (v i : ℕ) → Lowest N ys c v i → IsFirst (is_faulty N ys c) N (length ys) v i
    first_of_lowest v i l =
        record {
          row_in = l.row_in;
          index_in = l.index_in;
          passes = is_faulty_complete once v i (λ e. omega (arith, l.row_in)) l.broken;
          none_before = λ u j b h.
              fails (is_faulty N ys c u j) (λ e. l.none_before u j b h (is_faulty_sound bounded u j e));
        }

    -- the faulty cell is the lowest cell of a broken rule
    pub faulty_lowest : (p : ℕ) → faulty_cell N ys c ≡ some p
        → (v : ℕ) × (i : ℕ) × Lowest N ys c v i × (p ≡ v * length ys + get_or ys i 0)
    unfolding faulty_cell
    faulty_lowest p e = go found_place refl e
      where
        go : (o : Option Place) → found_place ≡ o → position_of ys o ≡ some p
            → (v : ℕ) × (i : ℕ) × Lowest N ys c v i × (p ≡ v * length ys + get_or ys i 0)
        go none q e = absurd (let z : ◌≡◌ {A = ℕ} 0 1 = cc in omega arith)
        go (some o) q e =
            let f = first_place_some (is_faulty N ys c) N (length ys) o q in
            (o.row, o.index, lowest_of_first o.row o.index f, sym (some-injective _ _ e))

    -- the lowest cell of a broken rule is the faulty cell
    pub lowest_faulty : (v i : ℕ) → Lowest N ys c v i → faulty_cell N ys c ≡ some (v * length ys + get_or ys i 0)
    unfolding faulty_cell
    lowest_faulty v i l =
        ap (position_of ys) (first_place_is (is_faulty N ys c) N (length ys) v i (first_of_lowest v i l))

-- ── Document 01's tables ──

module _ (n N : ℕ) (t : List ℕ) where
  -- in the usual order, the place of a letter is the letter
  position : (v y : ℕ) → y < 2 * n → v * length (usual n) + get_or (usual n) y 0 ≡ v * (2 * n) + y
  position v y h = rw (length_usual n, get_or_usual n y h)

  cell_of_lowest : (v y : ℕ) → Lowest N (usual n) (cell n N t) v y → LowestCell n N t v y
  cell_of_lowest v y l =
      let h : y < 2 * n = omega (arith, length_usual n) in
      record {
        point_in = l.row_in;
        letter_in = h;
        broken = l.broken;
        none_below = λ u z b q.
            l.none_before u z (before_of_position (2 * n) u z v y h q) (omega (arith, length_usual n));
      }

  lowest_of_cell : (v y : ℕ) → LowestCell n N t v y → Lowest N (usual n) (cell n N t) v y
  lowest_of_cell v y l =
      record {
        row_in = l.point_in;
        index_in = omega (arith, length_usual n);
        broken = l.broken;
        none_before = λ u j b q.
            let h : j < 2 * n = omega (arith, length_usual n) in
            l.none_below u j h (position_of_before (2 * n) u j v y h b);
      }

  -- a canonical table has no faulty cell
  pub table_canonical_none : Canonical N (usual n) (cell n N t) → faulty_cell N (usual n) (cell n N t) ≡ none
  table_canonical_none = canonical_none N (usual n) (cell n N t) (cell_bounded n N t)

  -- a table without a faulty cell is canonical
  pub table_none_canonical : 1 ≤ n → faulty_cell N (usual n) (cell n N t) ≡ none → Canonical N (usual n) (cell n N t)
  table_none_canonical h =
      none_canonical N (usual n) (cell n N t) (cell_bounded n N t) (usual_once n) (omega (arith, length_usual n))

  module _ (numbers : N ≤ absent) where
    -- the faulty cell is the lowest cell of a broken rule
    pub table_faulty_lowest : (p : ℕ) → faulty_cell N (usual n) (cell n N t) ≡ some p
        → (v : ℕ) × (y : ℕ) × LowestCell n N t v y × (p ≡ v * (2 * n) + y)
    table_faulty_lowest p e =
        let r = faulty_lowest N (usual n) (cell n N t) (cell_bounded n N t) (usual_once n) numbers p e in
        let l = cell_of_lowest r.0 r.1 r.2 in (r.0, r.1, l, r.3 ∙ position r.0 r.1 l.letter_in)

    -- the lowest cell of a broken rule is the faulty cell
    pub table_lowest_faulty : (v y : ℕ) → LowestCell n N t v y
        → faulty_cell N (usual n) (cell n N t) ≡ some (v * (2 * n) + y)
    table_lowest_faulty v y l =
        lowest_faulty N (usual n) (cell n N t) (cell_bounded n N t) (usual_once n) numbers v y (lowest_of_cell v y l)
        ∙ ap some (position v y l.letter_in)
