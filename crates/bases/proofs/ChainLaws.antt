-- Paths followed up through the cells (`specs/Chains`), and the loops that write them, on plain values.
--   sets_append, sets_before : runs of stores, one behind the other and one before the other
--   Chain N work d x <-> d steps up from x lead through points below N
--   Up   <-> of the path of v, that stands from byte `at` on, the letters from byte i on are written; up_first, up_turn, up_done
--   Back <-> of the inverse of the path of x the first i letters are written; back_first, back_turn, back_done
--   part_length, part_written : a part of the bytes, and one that is written whole
--   line_done : the line of a basis word from its parts
-- Assumes nothing.
use mathlib.Core.Path.{◌≡◌, refl, sym, ◌∙◌, ap, subst}
use mathlib.Core.List.{List, [], ◌∷◌, ◌++◌, map, append_assoc, append-nil}
use Prim.Native.Nat.{ℕ, zero, suc, ◌+◌, ◌-◌, ◌≤◌, ◌<◌}
use native.Mathlib.Nat.{add-zero}
use native.Mathlib.Numerals.{add-one}
use native.Mathlib.Omega.{arith}
use lib.ListN.{length, get_or, set, take, drop, length-append, length-map, length-take, length-drop}
use lib.Seq.{sets, sets-eq, set_comm, take-suc-set, take-length, drop-drop}
use borrow.Rule.Slice.PartMut.{put_mid}
use Rattle.theory.specs.Words.{inv, inverse_by, inverse_of}
use Rattle.theory.specs.Letters.{byte_of, line_end}
use Rattle.theory.proofs.WordLaws.{letters, inverse_append}
use Rattle.theory.proofs.BasisLaws.{length_inverse}
use Rattle.bases.specs.Chains.{depth_of, noted_path, path_bytes, back_bytes, loop_bytes}

-- ── Runs of stores ──

pub sets_append : (l : List ℕ) (i : ℕ) (a b : List ℕ) → sets (sets l i a) (i + length a) b ≡ sets l i (a ++ b)
sets_append l i [] b = ap (λ k. sets l k b) (add-zero i)
sets_append l i (x ∷ a) b =
    let e : i + suc (length a) ≡ suc i + length a = omega arith in
    ap (λ k. sets (sets (set l i x) (suc i) a) k b) e ∙ sets_append (set l i x) (suc i) a b

pub sets_before : (l : List ℕ) (k x i : ℕ) (a : List ℕ) → k < i → set (sets l i a) k x ≡ sets (set l k x) i a
sets_before l k x i [] h = refl
sets_before l k x i (b ∷ a) h =
    sets_before (set l i b) k x (suc i) a (omega arith) ∙ ap (λ m. sets m (suc i) a) (set_comm l i k b x (λ e. omega arith))

pub map-append : (f : ℕ → ℕ) (a b : List ℕ) → map f (a ++ b) ≡ map f a ++ map f b
map-append f [] b = refl
map-append f (x ∷ a) b = ap (λ l. f x ∷ l) (map-append f a b)

-- ── Lengths ──

module _ (N : ℕ) (work : List ℕ) where
  pub length_noted_path : (d x : ℕ) → length (noted_path N work d x) ≡ d
  unfolding noted_path
  length_noted_path zero x = refl
  length_noted_path (suc d) x =
      omega (arith, length-append (noted_path N work d (get_or work x 0)) (get_or work (N + x) 0 ∷ []), length_noted_path d (get_or work x 0))

  pub length_path_bytes : (x : ℕ) → length (path_bytes N work x) ≡ depth_of N work x
  unfolding path_bytes
  length_path_bytes x = length-map (noted_path N work (depth_of N work x) x) byte_of ∙ length_noted_path (depth_of N work x) x

  pub length_back_bytes : (x : ℕ) → length (back_bytes N work x) ≡ depth_of N work x
  unfolding back_bytes
  length_back_bytes x =
      length-map (inverse_of (noted_path N work (depth_of N work x) x)) byte_of
      ∙ length_inverse (noted_path N work (depth_of N work x) x)
      ∙ length_noted_path (depth_of N work x) x

  pub length_loop_bytes : (v y x : ℕ) → length (loop_bytes N work v y x) ≡ depth_of N work v + depth_of N work x + 2
  unfolding loop_bytes
  length_loop_bytes v y x =
      omega (
        arith,
        length-append (path_bytes N work v) (byte_of y ∷ (back_bytes N work x ++ (line_end ∷ []))),
        length-append (back_bytes N work x) (line_end ∷ []),
        length_path_bytes v,
        length_back_bytes x,
      )

-- one step up, and none
module _ (N : ℕ) (work : List ℕ) (p : ℕ) where
  noted_none : noted_path N work 0 p ≡ []
  unfolding noted_path
  noted_none = refl

  noted_more : (j : ℕ) → noted_path N work (suc j) p ≡ noted_path N work j (get_or work p 0) ++ (get_or work (N + p) 0 ∷ [])
  unfolding noted_path
  noted_more j = refl

inverse_none : inverse_of [] ≡ []
unfolding inverse_by
inverse_none = refl

inverse_last : (q : List ℕ) (y : ℕ) → inverse_of (q ++ (y ∷ [])) ≡ inv y ∷ inverse_of q
unfolding inverse_by
inverse_last q y = inverse_append letters q (y ∷ [])

-- the letter by which a point was met is below 52, and so is its inverse
pub inverse_small : (y : ℕ) → y < 52 → inv y < 52
unfolding inv
inverse_small y h = omega arith

-- ── A path, written backwards ──

-- d steps up from x lead through points below N
abbrev pub Chain : ℕ → List ℕ → ℕ → ℕ → Type 0
Chain N work zero x = Unit {0}
Chain N work (suc d) x = (x < N) × Chain N work d (get_or work x 0)

pub record Up (N : ℕ) (work : List ℕ) (d v at : ℕ) (old : List ℕ) (i p : ℕ) (out : List ℕ) : Type 0 where
  pub left : ℕ
  pub place : i ≡ at + left
  pub tail : List ℕ
  pub whole : noted_path N work d v ≡ noted_path N work left p ++ tail
  pub wrote : out ≡ sets old i (map byte_of tail)
  pub chain : Chain N work left p

module _ {N : ℕ} {work : List ℕ} {d v at : ℕ} {old : List ℕ} where
  pub up_first : {i : ℕ} → i ≡ at + d → Chain N work d v → Up N work d v at old i v old
  up_first e c =
      record { left = d; place = e; tail = []; whole = sym (append-nil (noted_path N work d v)); wrote = refl; chain = c }

  module _ {i p : ℕ} {out : List ℕ} (h : Up N work d v at old i p out) where
    up_more : at < i → (j : ℕ) × (h.left ≡ suc j) × Chain N work (suc j) p
    up_more l = (h.left - 1, e, subst (λ k. Chain N work k p) e h.chain)
      where
        e : h.left ≡ suc (h.left - 1)
        e = omega (arith, h.place)

    pub up_link : at < i → p < N
    up_link l = (up_more l).2.0

    pub up_turn : {b : ℕ} → at < i → b ≡ byte_of (get_or work (N + p) 0) → Up N work d v at old (i - 1) (get_or work p 0) (set out (i - 1) b)
    up_turn {b} l e =
        record {
          left = j;
          place = omega (arith, h.place, m.1);
          tail = y ∷ h.tail;
          whole =
              h.whole
              ∙ ap (λ k. noted_path N work k p ++ h.tail) m.1
              ∙ ap (λ l. l ++ h.tail) (noted_more N work p j)
              ∙ append_assoc (noted_path N work j (get_or work p 0)) (y ∷ []) h.tail;
          wrote =
              ap (λ l. set l (i - 1) b) h.wrote
              ∙ sets_before old (i - 1) b i (map byte_of h.tail) (omega arith)
              ∙ ap (λ k. sets (set old (i - 1) b) k (map byte_of h.tail)) (let q : i ≡ suc (i - 1) = omega arith in q)
              ∙ ap (λ z. sets (set old (i - 1) z) (suc (i - 1)) (map byte_of h.tail)) e;
          chain = m.2.1;
        }
      where
        m : (j : ℕ) × (h.left ≡ suc j) × Chain N work (suc j) p
        m = up_more l

        j : ℕ
        j = m.0

        y : ℕ
        y = get_or work (N + p) 0

    pub up_done : i ≤ at → out ≡ sets old at (map byte_of (noted_path N work d v))
    up_done l =
        h.wrote
        ∙ ap (λ k. sets old k (map byte_of h.tail)) (let e : i ≡ at = omega (arith, h.place) in e)
        ∙ ap (λ l. sets old at (map byte_of l)) (sym (h.whole ∙ ap (λ k. noted_path N work k p ++ h.tail) none_left ∙ ap (λ l. l ++ h.tail) (noted_none N work p)))
      where
        none_left : h.left ≡ 0
        none_left = omega (arith, h.place)

-- ── The inverse of a path, written onwards ──

pub record Back (N : ℕ) (work : List ℕ) (d x i p : ℕ) (cells : List ℕ) : Type 0 where
  pub left : ℕ
  pub sum : i + left ≡ d
  pub front : List ℕ
  pub whole : inverse_of (noted_path N work d x) ≡ front ++ inverse_of (noted_path N work left p)
  pub wrote : take i cells ≡ map byte_of front
  pub chain : Chain N work left p

module _ {N : ℕ} {work : List ℕ} {d x : ℕ} where
  pub back_first : {cells : List ℕ} → Chain N work d x → Back N work d x 0 x cells
  back_first c = record { left = d; sum = omega arith; front = []; whole = refl; wrote = refl; chain = c }

  module _ {i p : ℕ} {cells : List ℕ} (h : Back N work d x i p cells) where
    back_more : i < d → (j : ℕ) × (h.left ≡ suc j) × Chain N work (suc j) p
    back_more l = (h.left - 1, e, subst (λ k. Chain N work k p) e h.chain)
      where
        e : h.left ≡ suc (h.left - 1)
        e = omega (arith, h.sum)

    pub back_link : i < d → p < N
    back_link l = (back_more l).2.0

    pub back_turn : {b : ℕ} → i < d → i < length cells → b ≡ byte_of (inv (get_or work (N + p) 0))
        → Back N work d x (i + 1) (get_or work p 0) (set cells i b)
    back_turn {b} l k e =
        record {
          left = j;
          sum = omega (arith, h.sum, m.1);
          front = h.front ++ (inv y ∷ []);
          whole =
              h.whole
              ∙ ap (λ k. h.front ++ inverse_of (noted_path N work k p)) m.1
              ∙ ap (λ l. h.front ++ l) (ap inverse_of (noted_more N work p j) ∙ inverse_last q y)
              ∙ sym (append_assoc h.front (inv y ∷ []) (inverse_of q));
          wrote =
              ap (λ k. take k (set cells i b)) (add-one i)
              ∙ take-suc-set cells i b k
              ∙ ap (λ l. l ++ (b ∷ [])) h.wrote
              ∙ ap (λ z. map byte_of h.front ++ (z ∷ [])) e
              ∙ sym (map-append byte_of h.front (inv y ∷ []));
          chain = m.2.1;
        }
      where
        m : (j : ℕ) × (h.left ≡ suc j) × Chain N work (suc j) p
        m = back_more l

        j : ℕ
        j = m.0

        y : ℕ
        y = get_or work (N + p) 0

        q : List ℕ
        q = noted_path N work j (get_or work p 0)

    pub back_done : length cells ≡ d → length cells ≤ i → cells ≡ map byte_of (inverse_of (noted_path N work d x))
    back_done e l =
        sym (take-length cells)
        ∙ ap (λ k. take k cells) (let q : length cells ≡ i = omega (arith, h.sum) in q)
        ∙ h.wrote
        ∙ ap (map byte_of) (sym (h.whole ∙ ap (λ k. h.front ++ inverse_of (noted_path N work k p)) none_left ∙ ap (λ l. h.front ++ l) (ap inverse_of (noted_none N work p) ∙ inverse_none) ∙ append-nil h.front))
      where
        none_left : h.left ≡ 0
        none_left = omega (arith, h.sum)

-- a part of d bytes, and that part written whole
module _ (old : List ℕ) (at : ℕ) {d k : ℕ} (e : k ≡ d) (f : at + d ≤ length old) where
  pub part_length : length (take (at + k - at) (drop at old)) ≡ d
  part_length = omega (arith, length-take (at + k - at) (drop at old), length-drop at old)

  pub part_written : (cells : List ℕ) → length cells ≡ d → put_mid at (at + k - at) old cells ≡ sets old at cells
  part_written cells g =
      ap (λ l. take at old ++ (cells ++ l)) (drop-drop (at + k - at) at old ∙ ap (λ j. drop j old) (let q : at + (at + k - at) ≡ at + length cells = omega arith in q))
      ∙ sym (append_assoc (take at old) cells (drop (at + length cells) old))
      ∙ sym (sets-eq cells old at (omega arith))

-- ── A line ──

module _ (N : ℕ) (work : List ℕ) (v y x at : ℕ) (old : List ℕ) where
  -- the path, the letter, the way back and the line end, one behind the other
  pub line_done : (one two : List ℕ) (mid b end : ℕ) → one ≡ sets old at (path_bytes N work v) → mid ≡ at + depth_of N work v → b ≡ byte_of y
      → two ≡ sets (set one mid b) (mid + 1) (back_bytes N work x) → end ≡ mid + 1 + depth_of N work x
      → set two end line_end ≡ sets old at (loop_bytes N work v y x)
  unfolding loop_bytes
  line_done one two mid b end p m i q e =
      ap (λ l. set l end line_end) (q ∙ ap (λ z. sets (set one mid z) (mid + 1) (back_bytes N work x)) i ∙ ap (λ l. sets l (mid + 1) (back_bytes N work x)) first)
      ∙ ap (λ l. set l end line_end) (ap (λ i. sets (sets old at (path_bytes N work v ++ byte_of y ∷ [])) i (back_bytes N work x)) mid_is ∙ sets_append old at (path_bytes N work v ++ byte_of y ∷ []) (back_bytes N work x))
      ∙ ap (λ i. set (sets old at ((path_bytes N work v ++ byte_of y ∷ []) ++ back_bytes N work x)) i line_end) end_is
      ∙ sets_append old at ((path_bytes N work v ++ byte_of y ∷ []) ++ back_bytes N work x) (line_end ∷ [])
      ∙ ap (sets old at)
      (append_assoc (path_bytes N work v ++ byte_of y ∷ []) (back_bytes N work x) (line_end ∷ [])
      ∙ append_assoc (path_bytes N work v) (byte_of y ∷ []) (back_bytes N work x ++ (line_end ∷ [])))
    where
      first : set one mid (byte_of y) ≡ sets old at (path_bytes N work v ++ byte_of y ∷ [])
      first =
          ap (λ l. set l mid (byte_of y)) p
          ∙ ap (λ i. set (sets old at (path_bytes N work v)) i (byte_of y)) (m ∙ ap (λ k. at + k) (sym (length_path_bytes N work v)))
          ∙ sets_append old at (path_bytes N work v) (byte_of y ∷ [])

      mid_is : mid + 1 ≡ at + length (path_bytes N work v ++ byte_of y ∷ [])
      mid_is = omega (arith, m, length-append (path_bytes N work v) (byte_of y ∷ []), length_path_bytes N work v)

      end_is : end ≡ at + length ((path_bytes N work v ++ byte_of y ∷ []) ++ back_bytes N work x)
      end_is = omega (arith, e, mid_is, length-append (path_bytes N work v ++ byte_of y ∷ []) (back_bytes N work x), length_back_bytes N work x)
