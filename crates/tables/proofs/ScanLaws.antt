-- The cells of a table in reading order, for all that pass over them: the spots and the points met so far.
--   those_append, those_more : spots that pass a test, of lists one behind the other
--   spots_to : the spots before a place; spots_more, spots_row : one place more, and a whole row
--   before_more, before_row : what the cells before a place hold, one place more, and a whole row
--   Dense l g <-> every point up to g is met in l; dense_more, dense_absent : so it stays, a cell more
--   greatest_more, greatest_absent : the greatest point met, a cell more
--   met_before, first_here : a point met before is at most the greatest met, and one beyond it is first met where it is met
-- Assumes nothing.
use mathlib.Core.Path.{◌≡◌, refl, sym, ◌∙◌, ap, subst}
use mathlib.Core.Logic.{inl, inr, ⊎_elim, by_cases}
use mathlib.Core.Bool.{Bool, true, false, cond, ◌&&◌}
use mathlib.Core.Option.{some}
use mathlib.Core.List.{List, [], ◌∷◌, ◌++◌, append_assoc, append-nil}
use Prim.Native.Nat.{ℕ, suc, ◌+◌, ◌*◌, ◌≤◌, ◌<◌, max}
use native.Mathlib.Decide.{dec_lt}
use native.Mathlib.Omega.{arith}
use lib.Dec.{eqb}
use lib.ListN.{length, get_or, take, length-append, length-map, get_or-append, get_or-map}
use lib.Seq.{get_or-append-add, take-suc, take_all}
use borrow.Author.Tests.{eq-eqb, ne_eqb}
use Rattle.theory.specs.Letters.{usual, StandsIn}
use Rattle.theory.specs.Tables.{absent, Cells}
use Rattle.theory.specs.Canonical.{earlier, greatest_met}
use Rattle.theory.specs.Basis.{Spot, spots_of, scan, spot_at, first_met, those}
use Rattle.theory.proofs.WordLaws.{by_test}
use Rattle.theory.proofs.TableLaws.{length_usual, get_or_usual}
use Rattle.theory.proofs.PlaceLaws.{ComesBefore, IsFirst, first_place_is}
use Rattle.theory.proofs.RowLaws.{Met, earlier_suc, earlier_row, earlier_of_cell, greatest_met_most, greatest_met-append}
use Rattle.theory.proofs.PathLaws.{spot}

pub and_none : (b : Bool) → (b && false) ≡ false
and_none true = refl
and_none false = refl

-- ── Lists of spots ──

pub those_append : (f : Spot → Bool) (a b : List Spot) → those f (a ++ b) ≡ those f a ++ those f b
unfolding those
those_append f [] b = refl
those_append f (s ∷ a) b =
    let r = those_append f a b in by_test (f s) (λ e. rw e (ap (λ l. s ∷ l) r)) (λ e. rw e r)

-- one spot more
pub those_more : (f : Spot → Bool) (l : List Spot) (s : Spot)
    → length (those f (l ++ (s ∷ []))) ≡ length (those f l) + cond (f s) 1 0
those_more f l s = ap length (those_append f l (s ∷ [])) ∙ length-append (those f l) (those f (s ∷ [])) ∙ ap (λ k. length (those f l) + k) one
  where
    one : length (those f (s ∷ [])) ≡ cond (f s) 1 0
    one = unfold those in by_test (f s) (λ e. rw e) (λ e. rw e)

-- the spots before place y of row v
abbrev pub spots_to : List ℕ → ℕ → ℕ → List Spot
spots_to ys v y = scan v ys ++ take y (spots_of ys v)

pub length_spots : (ys : List ℕ) (v : ℕ) → length (spots_of ys v) ≡ length ys
unfolding spots_of
length_spots ys v = length-map ys (spot v)

module _ (n v : ℕ) where
  pub get_or_spots : (y : ℕ) → y < 2 * n → get_or (spots_of (usual n) v) y (spot v 0) ≡ spot v y
  unfolding spots_of
  get_or_spots y h = get_or-map (spot v) (usual n) y 0 ∙ ap (spot v) (get_or_usual n y h)

  pub spots_there : (y : ℕ) → y < 2 * n → y < length (spots_of (usual n) v)
  spots_there y h = omega (arith, length_spots (usual n) v, length_usual n)

  pub spots_more : (y : ℕ) → y < 2 * n → spots_to (usual n) v (suc y) ≡ spots_to (usual n) v y ++ (spot v y ∷ [])
  spots_more y h =
      ap (λ l. scan v (usual n) ++ l) (take-suc (spots_of (usual n) v) y (spot v 0) (spots_there y h) ∙ ap (λ s. take y (spots_of (usual n) v) ++ (s ∷ [])) (get_or_spots y h))
      ∙ sym (append_assoc (scan v (usual n)) (take y (spots_of (usual n) v)) (spot v y ∷ []))

  pub spots_row : spots_to (usual n) (suc v) 0 ≡ spots_to (usual n) v (2 * n)
  unfolding scan
  spots_row =
      append-nil (scan v (usual n) ++ spots_of (usual n) v)
      ∙ ap (λ l. scan v (usual n) ++ l) (sym (take_all (2 * n) (spots_of (usual n) v) (omega (arith, length_spots (usual n) v, length_usual n))))

-- ── Points met ──

stands_left : (l : List ℕ) (a x : ℕ) → StandsIn l x → StandsIn (l ++ (a ∷ [])) x
stands_left l a x s = (s.0, omega (arith, length-append l (a ∷ [])), get_or-append l (a ∷ []) 0 s.0 s.1 ∙ s.2)

stands_last : (l : List ℕ) (a : ℕ) → StandsIn (l ++ (a ∷ [])) a
stands_last l a = (length l + 0, omega (arith, length-append l (a ∷ [])), get_or-append-add l (a ∷ []) 0 0)

-- every point up to g is met in l
abbrev pub Dense : List ℕ → ℕ → Type 0
Dense l g = (x : ℕ) → x ≤ g → Met l x

-- a cell more, of at most the next point
pub dense_more : (l : List ℕ) (g a : ℕ) → Dense l g → (a ≡ absent → ⊥) → a ≤ suc g → Dense (l ++ (a ∷ [])) (max g a)
dense_more l g a d m h x k =
    by_cases (dec_lt g x) (λ b. let e : a ≡ x = omega arith in inr (subst (StandsIn (l ++ (a ∷ []))) e (stands_last l a), λ q. m (e ∙ q)))
    (λ b. ⊎_elim inl (λ s. inr (stands_left l a x s.0, s.1)) (d x (omega arith)))

-- an absent cell more
pub dense_absent : (l : List ℕ) (g a : ℕ) → Dense l g → Dense (l ++ (a ∷ [])) g
dense_absent l g a d x k = ⊎_elim inl (λ s. inr (stands_left l a x s.0, s.1)) (d x k)

pub greatest_more : (l : List ℕ) (a : ℕ) → (a ≡ absent → ⊥) → greatest_met (l ++ (a ∷ [])) ≡ max (greatest_met l) a
unfolding greatest_met
greatest_more l a m = greatest_met-append l (a ∷ []) ∙ ap (max (greatest_met l)) one
  where
    one : greatest_met (a ∷ []) ≡ a
    one = rw (ne_eqb a absent m) (omega arith)

pub greatest_absent : (l : List ℕ) (a : ℕ) → a ≡ absent → greatest_met (l ++ (a ∷ [])) ≡ greatest_met l
unfolding greatest_met
greatest_absent l a m = greatest_met-append l (a ∷ []) ∙ ap (max (greatest_met l)) one ∙ omega arith
  where
    one : greatest_met (a ∷ []) ≡ 0
    one = rw (eq-eqb a absent m)

-- ── The cells before a place ──

module _ (c : Cells) (n v : ℕ) where
  pub before_row : earlier c (usual n) (suc v) 0 ≡ earlier c (usual n) v (2 * n)
  before_row = earlier_row c (usual n) v ∙ ap (earlier c (usual n) v) (length_usual n)

  module _ (y : ℕ) where
    pub before_more : y < 2 * n → earlier c (usual n) v (suc y) ≡ earlier c (usual n) v y ++ (c v y ∷ [])
    before_more h =
        earlier_suc c (usual n) v y (omega (arith, length_usual n)) ∙ ap (λ z. earlier c (usual n) v y ++ (c v z ∷ [])) (get_or_usual n y h)

    -- a point met before is at most the greatest met
    pub met_before : (u j : ℕ) → ComesBefore u j v y → j < 2 * n → (c u j ≡ absent → ⊥) → c u j ≤ greatest_met (earlier c (usual n) v y)
    met_before u j b h m =
        greatest_met_most (earlier c (usual n) v y) (c u j)
        (inr (
          subst (λ z. StandsIn (earlier c (usual n) v y) (c u z)) (get_or_usual n j h) (earlier_of_cell c (usual n) v y u j b (omega (arith, length_usual n))),
          m,
        ))

    -- a point beyond the greatest met is first met here
    pub first_here : (N : ℕ) → v < N → y < 2 * n → (c v y ≡ absent → ⊥) → greatest_met (earlier c (usual n) v y) < c v y
        → first_met c N (usual n) (c v y) ≡ some (spot v y)
    unfolding first_met
    first_here N hv hy m g =
        ap (spot_at (usual n)) (first_place_is (λ u i. eqb (c u (get_or (usual n) i 0)) (c v y)) N (length (usual n)) v y here)
        ∙ ap (λ z. some (spot v z)) (get_or_usual n y hy)
      where
        here : IsFirst (λ u i. eqb (c u (get_or (usual n) i 0)) (c v y)) N (length (usual n)) v y
        here =
            record {
              row_in = hv;
              index_in = omega (arith, length_usual n);
              passes = eq-eqb (c v (get_or (usual n) y 0)) (c v y) (ap (c v) (get_or_usual n y hy));
              none_before = λ u j k h.
                  let hj : j < 2 * n = omega (arith, length_usual n) in
                  ap (λ z. eqb (c u z) (c v y)) (get_or_usual n j hj)
                  ∙ ne_eqb (c u j) (c v y) (λ q. omega (arith, met_before u j k hj (λ e. m (sym q ∙ e)), g));
            }
