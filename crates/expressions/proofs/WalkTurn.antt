-- The turns of `count_crossings`, `write_places` and `number_places` on plain values.
--   home_end     : a word that `is_home` leads to the base
--   Walk        <-> i letters of the word were read, to v; the places of their edges are `done`, `at` of them
--   Writing     <-> so it is, and those places stand in front of the output
--   next_passed, place_passed, next_stored, place_stored : one letter passed, or its place written
--   changed     == a list whose first i elements are changed by f; next_at, next_numbered : its next place, and once that has its number
-- Assumes nothing.
use mathlib.Core.Path.{◌≡◌, refl, sym, ◌∙◌, ap, subst}
use mathlib.Core.Bool.{Bool, true, false}
use mathlib.Core.Option.{Option, none, some}
use mathlib.Core.List.{List, [], ◌∷◌, ◌++◌, map, append_assoc, append-nil}
use Prim.Native.Nat.{ℕ, zero, suc, ◌+◌, ◌*◌, ◌≤◌, ◌<◌}
use native.Mathlib.Numerals.{add-one}
use native.Mathlib.Omega.{arith}
use lib.IntN.{ℤ}
use lib.ListN.{length, get_or, take, drop, set, length-append, drop_of_length-le}
use lib.Seq.{drop-cons, sets, sets-eq}
use borrow.Author.Tests.{eqb-true}
use mir.Syntax.{w32}
use mir.Val.{SFits, to_z, of_z}
use mir.ValLaws.{to_z-of_z}
use Rattle.std.proofs.lemmas.List.{get_or_default}
use Rattle.std.proofs.lemmas.List.Edits.{map_over_more}
use Rattle.theory.specs.Letters.{usual}
use Rattle.theory.specs.Tables.{absent, cell, end_of, is_at}
use Rattle.theory.proofs.PlaceLaws.{passes_fails}
use Rattle.tables.proofs.LentLaws.{IsSound}
use Rattle.edges.specs.Edges.{is_outside}
use Rattle.expressions.specs.Places.{place_of, placed, places_from, places_of, AtEdge, AllAtEdge}
use Rattle.expressions.specs.Parts.{is_home, in_front}
use Rattle.expressions.proofs.SignLaws.{read_back}
use Rattle.expressions.proofs.PlaceLaws.{end_step, letter_in, placed_few, placed_one, placed_none}

pub record Walk (n N : ℕ) (t word : List ℕ) (i v at : ℕ) : Type 0 where
  pub done : List ℤ
  pub here : v < N
  pub goes : end_of (cell n N t) v (drop i word) ≡ some 0
  pub rest : places_of n N t word ≡ done ++ places_from n N t v (drop i word)
  pub counted : at ≡ length done
  pub few : at ≤ i

pub home_end : (n N : ℕ) (t w : List ℕ) → is_home n N t w ≡ true → end_of (cell n N t) 0 w ≡ some 0
unfolding is_home
home_end n N t w e = at (end_of (cell n N t) 0 w) e
  where
    at : (o : Option ℕ) → is_at 0 o ≡ true → o ≡ some 0
    at none g = passes_fails g refl
    at (some v) g = ap some (eqb-true v 0 g)

module _ {n N : ℕ} {t word : List ℕ} (S : IsSound n N t) (home : is_home n N t word ≡ true) where
  pub walk_first : Walk n N t word 0 0 0
  walk_first =
      record {
        done = [];
        here = omega (arith, S.lent.based);
        goes = home_end n N t word home;
        rest = refl;
        counted = refl;
        few = omega arith;
      }

  module _ {i v at : ℕ} (h : Walk n N t word i v at) where
    module _ (l : i < length word) where
      -- the next letter stands in front of the rest
      next : drop i word ≡ get_or word i 0 ∷ drop (suc i) word
      next = drop-cons word i 0 l

      step : (cell n N t v (get_or word i 0) ≡ absent → ⊥) × (end_of (cell n N t) (cell n N t v (get_or word i 0)) (drop (suc i) word) ≡ some 0)
      step =
          end_step (cell n N t) v (get_or word i 0) (drop (suc i) word) 0 (ap (end_of (cell n N t) v) (sym next) ∙ h.goes)

      -- it leads somewhere
      pub walk_leads : cell n N t v (get_or word i 0) ≡ absent → ⊥
      walk_leads = step.0

      pub walk_there : {x : ℕ} → x ≡ cell n N t v (get_or word i 0) → x ≡ absent → ⊥
      walk_there e z = step.0 (sym e ∙ z)

      pub walk_in : (v < N) × (get_or word i 0 < 2 * n) × (cell n N t v (get_or word i 0) < N)
      walk_in = letter_in S v (get_or word i 0) step.0

      places_next : places_of n N t word ≡ (h.done ++ placed n N t v (get_or word i 0)) ++ places_from n N t (cell n N t v (get_or word i 0)) (drop (suc i) word)
      unfolding places_from
      places_next =
          h.rest
          ∙ ap (λ m. h.done ++ places_from n N t v m) next
          ∙ sym (append_assoc h.done (placed n N t v (get_or word i 0)) (places_from n N t (cell n N t v (get_or word i 0)) (drop (suc i) word)))

      -- there is room for its place
      pub walk_room : at + length (placed n N t v (get_or word i 0)) ≤ length (places_of n N t word)
      walk_room =
          omega (
            arith,
            h.counted,
            ap length places_next,
            length-append (h.done ++ placed n N t v (get_or word i 0)) (places_from n N t (cell n N t v (get_or word i 0)) (drop (suc i) word)),
            length-append h.done (placed n N t v (get_or word i 0)),
          )

      pub walk_turn : {x at' : ℕ} → x ≡ cell n N t v (get_or word i 0) → at' ≡ at + length (placed n N t v (get_or word i 0)) → Walk n N t word (i + 1) x at'
      walk_turn {x} {at'} e a =
          record {
            done = h.done ++ placed n N t v (get_or word i 0);
            here = subst (λ u. u < N) (sym e) walk_in.2;
            goes = rw (add-one i, e) step.1;
            rest = rw (add-one i, e) places_next;
            counted = a ∙ ap (λ k. k + length (placed n N t v (get_or word i 0))) h.counted ∙ sym (length-append h.done (placed n N t v (get_or word i 0)));
            few = omega (arith, h.few, placed_few S v (get_or word i 0));
          }

      -- an edge that no path uses is counted, another not
      pub walk_crossed : {x : ℕ} {b : Bool} → x ≡ cell n N t v (get_or word i 0) → b ≡ is_outside (cell n N t) N (usual n) v (get_or word i 0) → b ≡ true
          → Walk n N t word (i + 1) x (at + 1)
      walk_crossed e o b =
          walk_turn e (ap (λ k. at + k) (sym (ap length (placed_one S v (get_or word i 0) (sym o ∙ b)))))

      pub walk_passed : {x : ℕ} {b : Bool} → x ≡ cell n N t v (get_or word i 0) → b ≡ is_outside (cell n N t) N (usual n) v (get_or word i 0) → b ≡ false
          → Walk n N t word (i + 1) x at
      walk_passed e o b =
          walk_turn e (let z : at ≡ at + 0 = omega arith in z ∙ ap (λ k. at + k) (sym (ap length (placed_none S v (get_or word i 0) (sym o ∙ b)))))

    -- all letters were read
    all_done : length word ≤ i → h.done ≡ places_of n N t word
    unfolding places_from
    all_done l =
        sym (h.rest ∙ ap (λ m. h.done ++ places_from n N t v m) (drop_of_length-le word {i = i} l) ∙ append-nil h.done)

    pub walk_done : length word ≤ i → at ≡ length (places_of n N t word)
    walk_done l = h.counted ∙ ap length (all_done l)

-- ── Places written ──

pub record Writing (n N : ℕ) (t word : List ℕ) (out₀ : List ℤ) (i v at : ℕ) (out : List ℤ) : Type 0 where
  pub walk : Walk n N t word i v at
  pub cells : out ≡ sets out₀ 0 walk.done

-- stores one run behind another are stores of both
sets_append : (k l : List ℤ) (i : ℕ) (out : List ℤ) → sets out i (k ++ l) ≡ sets (sets out i k) (i + length k) l
sets_append [] l i out = ap (λ j. sets out j l) (let z : i ≡ i + 0 = omega arith in z)
sets_append (a ∷ k) l i out =
    sets_append k l (suc i) (set out i a)
    ∙ ap (λ j. sets (sets (set out i a) (suc i) k) j l) (let z : suc i + length k ≡ i + suc (length k) = omega arith in z)

module _ {n N : ℕ} {t word : List ℕ} {out₀ : List ℤ} (S : IsSound n N t) (home : is_home n N t word ≡ true) where
  pub writing_first : Writing n N t word out₀ 0 0 0 out₀
  unfolding walk_first
  writing_first = record { walk = walk_first S home; cells = refl }

  module _ {i v at : ℕ} {out : List ℤ} (h : Writing n N t word out₀ i v at out) where
    pub writing_turn : {x at' : ℕ} {out' : List ℤ} → i < length word → x ≡ cell n N t v (get_or word i 0) → at' ≡ at + length (placed n N t v (get_or word i 0))
        → out' ≡ sets out at (placed n N t v (get_or word i 0)) → Writing n N t word out₀ (i + 1) x at' out'
    unfolding walk_turn
    writing_turn l e a s =
        record {
          walk = walk_turn S home h.walk l e a;
          cells =
              s
              ∙ ap (λ o. sets o at (placed n N t v (get_or word i 0))) h.cells
              ∙ ap (λ k. sets (sets out₀ 0 h.walk.done) k (placed n N t v (get_or word i 0)))
              (let z : 0 + length h.walk.done ≡ length h.walk.done = omega arith in h.walk.counted ∙ sym z)
              ∙ sym (sets_append h.walk.done (placed n N t v (get_or word i 0)) 0 out₀);
        }

    pub writing_done : length word ≤ i → length (places_of n N t word) ≤ length out₀ → out ≡ in_front (places_of n N t word) out₀
    writing_done l room =
        h.cells
        ∙ ap (sets out₀ 0) (all_done S home h.walk l)
        ∙ sets-eq (places_of n N t word) out₀ 0 (omega (arith, room))
        ∙ ap (λ k. places_of n N t word ++ drop k out₀)
        (let z : 0 + length (places_of n N t word) ≡ length (places_of n N t word) = omega arith in z)

-- ── One place ──

-- nothing is written for an edge that a path uses, and the place of another is
module _ {n N : ℕ} {t : List ℕ} (S : IsSound n N t) (v y at : ℕ) {b : Bool} (e : b ≡ is_outside (cell n N t) N (usual n) v y) where
  pub next_passed : b ≡ false → at ≡ at + length (placed n N t v y)
  next_passed f = omega (arith, ap length (placed_none S v y (sym e ∙ f)))

  pub place_passed : (out : List ℤ) → b ≡ false → out ≡ sets out at (placed n N t v y)
  place_passed out f = ap (sets out at) (sym (placed_none S v y (sym e ∙ f)))

  pub next_stored : b ≡ true → at + 1 ≡ at + length (placed n N t v y)
  next_stored f = omega (arith, ap length (placed_one S v y (sym e ∙ f)))

  pub place_stored : (out : List ℤ) {x : ℕ} {z : ℤ} → b ≡ true → x ≡ cell n N t v y → SFits w32 z → z ≡ place_of n v y x
      → set out at (to_z w32 (of_z w32 z)) ≡ sets out at (placed n N t v y)
  place_stored out {x} {z} f h held g =
      ap (set out at) (to_z-of_z w32 z held ∙ g ∙ ap (place_of n v y) h) ∙ ap (sets out at) (sym (placed_one S v y (sym e ∙ f)))

-- ── Numbers in the places' stead ──

-- the first i elements changed by f
abbrev pub changed : (ℤ → ℤ) → ℕ → List ℤ → List ℤ
changed f i l = map f (take i l) ++ drop i l

-- the next is still as it was
changed_next : (f : ℤ → ℤ) (i : ℕ) (l : List ℤ) (d : ℤ) → i < length l → get_or (changed f i l) i d ≡ get_or l i d
changed_next f i [] d h = absurd (omega arith)
changed_next f zero (a ∷ l) d h = refl
changed_next f (suc i) (a ∷ l) d h = changed_next f i l d (omega arith)

module _ (n N : ℕ) (t : List ℕ) where
  all_here : (l : List ℤ) (i : ℕ) (d : ℤ) → AllAtEdge n N t l → i < length l → AtEdge n N t (get_or l i d)
  all_here [] i d a h = absurd (omega arith)
  all_here (z ∷ l) zero d a h = a.0
  all_here (z ∷ l) (suc i) d a h = all_here l i d a.1 (omega arith)

  -- the next place, once the first i have their numbers
  module _ (f : ℤ → ℤ) (l : List ℤ) (i : ℕ) (out : List ℤ) (d : ℤ) (e : out ≡ changed f i l) (a : AllAtEdge n N t l) (k : i < length l) where
    next_here : AtEdge n N t (get_or out i d)
    next_here =
        subst (AtEdge n N t) (sym (ap (λ o. get_or o i d) e ∙ changed_next f i l d k)) (all_here l i d a k)

    next_read : to_z w32 (of_z w32 (get_or out i d)) ≡ get_or out i d
    next_read = read_back (get_or out i d) next_here.small

    -- what the machine reads there is the place of an edge outside the paths
    pub next_at : AtEdge n N t (to_z w32 (of_z w32 (get_or out i d)))
    next_at = subst (AtEdge n N t) (sym next_read) next_here

    -- so it has its number too
    pub next_numbered : {z : ℤ} → length out ≡ length l → SFits w32 z → z ≡ f (to_z w32 (of_z w32 (get_or out i d))) → set out i (to_z w32 (of_z w32 z)) ≡ changed f (i + 1) l
    next_numbered {z} same held g =
        ap (set out i) (to_z-of_z w32 z held ∙ g ∙ ap f next_read)
        ∙ map_over_more f l out i (get_or out i d) k e (get_or_default out i d (get_or out i d) (omega arith))
