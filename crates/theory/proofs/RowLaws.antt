-- Laws of the cells of rows (`specs/Canonical`): which come before a place, the greatest point met in them, and how many
-- are not absent.
--   Met l x    <-> point x is met in the cells l: it is the base, or one of them and not absent
--   HasTwo c v <-> row v has cells of two letters that are not absent
-- `earlier` holds the cells at the places that come before, and one more at each next place. Assumes nothing.
use mathlib.Core.Path.{◌≡◌, refl, sym, ◌∙◌, ap, subst}
use mathlib.Core.Logic.{◌⊎◌, inl, inr, ⊎_elim, by_cases}
use mathlib.Core.Bool.{true}
use mathlib.Core.List.{List, [], ◌∷◌, ◌++◌, map, append_assoc, append-nil}
use Prim.Native.Nat.{ℕ, zero, suc, ◌+◌, ◌≤◌, ◌<◌, max}
use native.Mathlib.Decide.{ℕ_discrete, dec_lt}
use native.Mathlib.Omega.{arith}
use lib.Dec.{eqb}
use lib.ListN.{length, get_or, take, length-append, length-take, length-map, get_or-append}
use lib.Seq.{get_or-append-add, get_or-take, take-suc, take_all}
use borrow.Author.Tests.{ne_eqb, eqb-false}
use Rattle.theory.specs.Tables.{absent, Cells}
use Rattle.theory.specs.Canonical.{row_of, rows_before, earlier, greatest_met, present, is_in}
use Rattle.theory.proofs.WordLaws.{by_test}
use Rattle.theory.proofs.TableLaws.{StandsIn, Bounded, Once}
use Rattle.theory.proofs.PlaceLaws.{passes_fails, Tells, tells_same, tells_or, tells_eqb, ComesBefore}

-- ── Standing in a list ──

-- what stands in a list with a in front is a or stands behind it
stands_cons : (a : ℕ) (l : List ℕ) (x : ℕ) → (a ≡ x) ⊎ StandsIn l x → StandsIn (a ∷ l) x
stands_cons a l x s = ⊎_elim (λ e. (0, omega arith, e)) (λ r. (suc r.0, omega arith, r.2)) s

stands_uncons : (a : ℕ) (l : List ℕ) (x : ℕ) → StandsIn (a ∷ l) x → (a ≡ x) ⊎ StandsIn l x
stands_uncons a l x s = at s.0 s.1 s.2
  where
    at : (i : ℕ) → i < length (a ∷ l) → get_or (a ∷ l) i 0 ≡ x → (a ≡ x) ⊎ StandsIn l x
    at zero h e = inl e
    at (suc i) h e = inr (i, omega arith, e)

is_in_tells : (x : ℕ) (l : List ℕ) → Tells (is_in x l) (StandsIn l x)
unfolding is_in
is_in_tells x [] = record { sound = λ e. passes_fails e refl; complete = λ s. absurd (omega (arith, s.1)) }
is_in_tells x (a ∷ l) = tells_same (tells_or (tells_eqb a x) (is_in_tells x l)) (stands_cons a l x) (stands_uncons a l x)

-- what the test finds stands in the list
pub is_in_sound : (x : ℕ) (l : List ℕ) → is_in x l ≡ true → StandsIn l x
is_in_sound x l = (is_in_tells x l).sound

-- the test finds what stands in the list
pub is_in_complete : (x : ℕ) (l : List ℕ) → StandsIn l x → is_in x l ≡ true
is_in_complete x l = (is_in_tells x l).complete

stands_left : (l m : List ℕ) (x : ℕ) → StandsIn l x → StandsIn (l ++ m) x
stands_left l m x s = (s.0, omega (arith, length-append l m), get_or-append l m 0 s.0 s.1 ∙ s.2)

stands_right : (l m : List ℕ) (x : ℕ) → StandsIn m x → StandsIn (l ++ m) x
stands_right l m x s = (length l + s.0, omega (arith, length-append l m), get_or-append-add l m s.0 0 ∙ s.2)

stands_append : (l m : List ℕ) (x : ℕ) → StandsIn (l ++ m) x → StandsIn l x ⊎ StandsIn m x
stands_append [] m x s = inr s
stands_append (a ∷ l) m x s =
    ⊎_elim (λ e. inl (stands_cons a l x (inl e)))
    (λ r. ⊎_elim (λ q. inl (stands_cons a l x (inr q))) inr (stands_append l m x r)) (stands_uncons a (l ++ m) x s)

-- ── Rows ──

get_d_map : (f : ℕ → ℕ) (l : List ℕ) (i : ℕ) → i < length l → get_or (map f l) i 0 ≡ f (get_or l i 0)
get_d_map f [] i h = absurd (omega arith)
get_d_map f (a ∷ l) zero h = refl
get_d_map f (a ∷ l) (suc i) h = get_d_map f l i (omega arith)

module _ (c : Cells) (ys : List ℕ) where
  -- a row has a cell for each letter
  pub length_row : (v : ℕ) → length (row_of c ys v) ≡ length ys
  unfolding row_of
  length_row v = length-map ys (c v)

  -- the cell at place i of a row is that of the i-th letter
  pub get_or_row : (v i : ℕ) → i < length ys → get_or (row_of c ys v) i 0 ≡ c v (get_or ys i 0)
  unfolding row_of
  get_or_row v i h = get_d_map (c v) ys i h

  -- what stands in a row is the cell of a letter, and each letter's cell stands there
  row_cell : (v x : ℕ) → StandsIn (row_of c ys v) x → (y : ℕ) × StandsIn ys y × (c v y ≡ x)
  row_cell v x s =
      let h : s.0 < length ys = omega (arith, length_row v) in
      (get_or ys s.0 0, (s.0, h, refl), sym (get_or_row v s.0 h) ∙ s.2)

  cell_row : (v y : ℕ) → StandsIn ys y → StandsIn (row_of c ys v) (c v y)
  cell_row v y s = (s.0, omega (arith, length_row v), get_or_row v s.0 s.1 ∙ ap (c v) s.2)

  -- what stands in the rows before v is the cell of a letter in one of them
  pub cell_of_rows_before : (v x : ℕ) → StandsIn (rows_before c ys v) x
      → (u : ℕ) × (y : ℕ) × (u < v) × StandsIn ys y × (c u y ≡ x)
  unfolding rows_before
  cell_of_rows_before zero x s = absurd (omega arith)
  cell_of_rows_before (suc v) x s =
      ⊎_elim (λ a. let r = cell_of_rows_before v x a in (r.0, r.1, omega arith, r.3, r.4))
      (λ b. let r = row_cell v x b in (v, r.0, omega arith, r.1, r.2))
      (stands_append (rows_before c ys v) (row_of c ys v) x s)

  -- the cell of a letter in a row before v stands in the rows before v
  pub rows_before_of_cell : (v u y : ℕ) → u < v → StandsIn ys y → StandsIn (rows_before c ys v) (c u y)
  unfolding rows_before
  rows_before_of_cell zero u y h s = absurd (omega arith)
  rows_before_of_cell (suc v) u y h s =
      by_cases (ℕ_discrete u v)
      (λ e. subst (λ z. StandsIn (rows_before c ys v ++ row_of c ys v) (c z y)) (sym e)
      (stands_right (rows_before c ys v) (row_of c ys v) (c v y) (cell_row v y s)))
      (λ e. stands_left (rows_before c ys v) (row_of c ys v) (c u y) (rows_before_of_cell v u y (omega arith) s))

  -- one place on, one cell more has come before
  pub earlier_suc : (v i : ℕ) → i < length ys → earlier c ys v (suc i) ≡ earlier c ys v i ++ (c v (get_or ys i 0) ∷ [])
  unfolding earlier
  earlier_suc v i h =
      ap (λ l. rows_before c ys v ++ l)
      (take-suc (row_of c ys v) i 0 (omega (arith, length_row v))
      ∙ ap (λ x. take i (row_of c ys v) ++ (x ∷ [])) (get_or_row v i h))
      ∙ sym (append_assoc (rows_before c ys v) (take i (row_of c ys v)) (c v (get_or ys i 0) ∷ []))

  -- the first cell of a row comes after the whole row before
  pub earlier_row : (v : ℕ) → earlier c ys (suc v) 0 ≡ earlier c ys v (length ys)
  unfolding earlier rows_before
  earlier_row v =
      append-nil (rows_before c ys v ++ row_of c ys v)
      ∙ ap (λ l. rows_before c ys v ++ l) (sym (take_all (length ys) (row_of c ys v) (omega (arith, length_row v))))

  -- what stands before a place is the cell at a place that comes before it
  pub cell_of_earlier : (v i x : ℕ) → StandsIn (earlier c ys v i) x
      → (u : ℕ) × (j : ℕ) × ComesBefore u j v i × (j < length ys) × (c u (get_or ys j 0) ≡ x)
  unfolding earlier
  cell_of_earlier v i x s =
      ⊎_elim
      (λ a. let r = cell_of_rows_before v x a in (r.0, r.3.0, inl r.2, r.3.1, ap (c r.0) r.3.2 ∙ r.4))
      (λ b. let n = length-take i (row_of c ys v) in
      let l = length_row v in
      let h : b.0 < length ys = omega arith in (
        v,
        b.0,
        inr (refl, omega arith),
        h,
        sym (get_or_row v b.0 h) ∙ sym (get_or-take i (row_of c ys v) b.0 0 (omega arith)) ∙ b.2,
      ))
      (stands_append (rows_before c ys v) (take i (row_of c ys v)) x s)

  -- the cell at a place that comes before stands before
  pub earlier_of_cell : (v i u j : ℕ) → ComesBefore u j v i → j < length ys
      → StandsIn (earlier c ys v i) (c u (get_or ys j 0))
  unfolding earlier
  earlier_of_cell v i u j b h =
      ⊎_elim
      (λ a. stands_left (rows_before c ys v) (take i (row_of c ys v)) (c u (get_or ys j 0))
      (rows_before_of_cell v u (get_or ys j 0) a (j, h, refl)))
      (λ a. stands_right (rows_before c ys v) (take i (row_of c ys v)) (c u (get_or ys j 0)) (
        j,
        omega (arith, length-take i (row_of c ys v), length_row v, a.1),
        get_or-take i (row_of c ys v) j 0 a.1 ∙ get_or_row v j h ∙ ap (λ z. c z (get_or ys j 0)) (sym a.0),
      )) b

  -- nothing comes before the first cell
  pub earlier_start : earlier c ys 0 0 ≡ []
  unfolding earlier rows_before
  earlier_start = refl

-- ── The greatest point met ──

-- point x is met in the cells l: it is the base, or a cell that is not absent
abbrev pub Met : List ℕ → ℕ → Type 0
Met l x = (x ≡ 0) ⊎ (StandsIn l x × (x ≡ absent → ⊥))

-- one cell more in front
met_cons : (a : ℕ) (l : List ℕ) (x : ℕ) → Met l x → Met (a ∷ l) x
met_cons a l x m = ⊎_elim inl (λ s. inr (stands_cons a l x (inr s.0), s.1)) m

-- the greatest point met is met
pub greatest_met_met : (l : List ℕ) → Met l (greatest_met l)
unfolding greatest_met
greatest_met_met [] = inl refl
greatest_met_met (a ∷ l) =
    let r = met_cons a l (greatest_met l) (greatest_met_met l) in
    by_test (eqb a absent) (λ e. rw e r) (λ e. rw e (greater (greatest_met l) (eqb-false a absent e) r))
  where
    greater : (g : ℕ) → (a ≡ absent → ⊥) → Met (a ∷ l) g → Met (a ∷ l) (max a g)
    greater g n m =
        by_cases (dec_lt a g) (λ h. subst (Met (a ∷ l)) (omega arith) m)
        (λ h. subst (Met (a ∷ l)) (omega arith) (inr ((0, omega arith, refl), n)))

-- no greater point is met
pub greatest_met_most : (l : List ℕ) (x : ℕ) → Met l x → x ≤ greatest_met l
unfolding greatest_met
greatest_met_most l x m = ⊎_elim (λ e. omega arith) (λ s. at l s.0.0 s.0.1 s.0.2 s.1) m
  where
    at : (l : List ℕ) (i : ℕ) → i < length l → get_or l i 0 ≡ x → (x ≡ absent → ⊥) → x ≤ greatest_met l
    at [] i h e n = absurd (omega arith)
    at (a ∷ l) zero h e n = rw (e, ne_eqb x absent n) (omega arith)
    at (a ∷ l) (suc i) h e n =
        let r = at l i (omega arith) e n in by_test (eqb a absent) (λ t. rw t r) (λ t. rw t (omega arith))

-- the greatest point met in joined lists is the greater of both
pub greatest_met-append : (l m : List ℕ) → greatest_met (l ++ m) ≡ max (greatest_met l) (greatest_met m)
unfolding greatest_met
greatest_met-append [] m = omega arith
greatest_met-append (a ∷ l) m =
    let r = greatest_met-append l m in by_test (eqb a absent) (λ e. rw e r) (λ e. rw e (omega arith))

-- ── Two cells that are not absent ──

-- row v has cells of two letters that are not absent
abbrev pub HasTwo : Cells → ℕ → Type 0
HasTwo c v = (y : ℕ) × (z : ℕ) × (y ≡ z → ⊥) × (c v y ≡ absent → ⊥) × (c v z ≡ absent → ⊥)

-- a place of l that is not absent
abbrev HasCell : List ℕ → ℕ → Type 0
HasCell l i = (i < length l) × (get_or l i 0 ≡ absent → ⊥)

one_cell : (l : List ℕ) → 1 ≤ present l → (i : ℕ) × HasCell l i
unfolding present
one_cell [] h = absurd (omega arith)
one_cell (a ∷ l) h =
    by_test (eqb a absent) (λ e. let r = one_cell l (rw e at h) in (suc r.0, (omega arith, r.1.1)))
    (λ e. (0, (omega arith, eqb-false a absent e)))

cell_one : (l : List ℕ) (i : ℕ) → HasCell l i → 1 ≤ present l
unfolding present
cell_one [] i h = absurd (omega arith)
cell_one (a ∷ l) zero h = rw (ne_eqb a absent h.1) (omega arith)
cell_one (a ∷ l) (suc i) h =
    let r = cell_one l i (omega arith, h.1) in by_test (eqb a absent) (λ e. rw e r) (λ e. rw e (omega arith))

two_cells : (l : List ℕ) → 2 ≤ present l → (i : ℕ) × (j : ℕ) × (i < j) × HasCell l i × HasCell l j
unfolding present
two_cells [] h = absurd (omega arith)
two_cells (a ∷ l) h =
    by_test (eqb a absent)
    (λ e. let r = two_cells l (rw e at h) in
    (suc r.0, suc r.1, omega arith, (omega arith, r.3.1), (omega arith, r.4.1)))
    (λ e. let r = one_cell l (omega (arith, rw e at h)) in
    (0, suc r.0, omega arith, (omega arith, eqb-false a absent e), (omega arith, r.1.1)))

cells_two : (l : List ℕ) (i j : ℕ) → (i ≡ j → ⊥) → HasCell l i → HasCell l j → 2 ≤ present l
unfolding present
cells_two [] i j d h k = absurd (omega arith)
cells_two (a ∷ l) zero zero d h k = absurd (d refl)
cells_two (a ∷ l) zero (suc j) d h k =
    let r = cell_one l j (omega arith, k.1) in rw (ne_eqb a absent h.1) (omega arith)
cells_two (a ∷ l) (suc i) zero d h k =
    let r = cell_one l i (omega arith, h.1) in rw (ne_eqb a absent k.1) (omega arith)
cells_two (a ∷ l) (suc i) (suc j) d h k =
    let r = cells_two l i j (λ e. d (ap suc e)) (omega arith, h.1) (omega arith, k.1) in
    by_test (eqb a absent) (λ e. rw e r) (λ e. rw e (omega arith))

-- two cells of a row that are not absent are those of two letters, as no letter stands twice
pub present_sound : (ys : List ℕ) (c : Cells) (v : ℕ) → Once ys → 2 ≤ present (row_of c ys v) → HasTwo c v
present_sound ys c v once h =
    let r = two_cells (row_of c ys v) h in
    let i : r.0 < length ys = omega (arith, length_row c ys v) in
    let j : r.1 < length ys = omega (arith, length_row c ys v) in (
      get_or ys r.0 0,
      get_or ys r.1 0,
      λ e. omega (arith, once r.0 r.1 i j e, r.2),
      λ e. r.3.1 (get_or_row c ys v r.0 i ∙ e),
      λ e. r.4.1 (get_or_row c ys v r.1 j ∙ e),
    )

-- the cells of two letters are two of the row, as only letters of ys have cells
pub present_complete : (N : ℕ) (ys : List ℕ) (c : Cells) (v : ℕ) → Bounded c N ys → HasTwo c v
    → 2 ≤ present (row_of c ys v)
present_complete N ys c v bounded t =
    let a = (bounded v t.0 t.3).1 in
    let b = (bounded v t.1 t.4).1 in
    cells_two (row_of c ys v) a.0 b.0 (λ e. t.2 (sym a.2 ∙ ap (λ i. get_or ys i 0) e ∙ b.2))
    (has t.0 a t.3) (has t.1 b t.4)
  where
    has : (y : ℕ) (s : StandsIn ys y) → (c v y ≡ absent → ⊥) → HasCell (row_of c ys v) s.0
    has y s n = (omega (arith, length_row c ys v), λ e. n (sym (get_or_row c ys v s.0 s.1 ∙ ap (c v) s.2) ∙ e))
