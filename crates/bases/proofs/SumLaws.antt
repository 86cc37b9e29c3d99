-- The loops of `basis` over spots, on plain values: sizes summed and lines written, row by row.
--   size_used, size_line : what a spot adds to a size; row_small : a row adds little
--   Sum  <-> a size and what the first y spots of row v add to it; sum_first, sum_turn, sum_done
--   Sums <-> the size of the first v rows; sums_first, sums_turn, sums_done
--   Lines <-> from `at` on the text of the first y spots of row v is written; lines_first, lines_turn, lines_done
--   Rows <-> the text of the first v rows is written; rows_first, rows_turn, rows_done
-- Assumes nothing.
use mathlib.Core.Path.{◌≡◌, refl, sym, ◌∙◌, ap}
use mathlib.Core.Bool.{true, false}
use mathlib.Core.List.{List, [], ◌∷◌, ◌++◌}
use Prim.Native.Nat.{ℕ, zero, suc, ◌+◌, ◌-◌, ◌*◌, ◌≤◌, ◌<◌}
use native.Mathlib.Nat.{add-zero}
use native.Mathlib.Numerals.{add-one}
use native.Mathlib.Omega.{arith}
use lib.ListN.{length, take, drop, length-append, length-map, take-append-drop, get_or-map}
use lib.Seq.{sets, length-sets, take-suc, take_all}
use Rattle.theory.specs.Letters.{usual}
use Rattle.theory.specs.Tables.{Cells, cell}
use Rattle.theory.specs.Basis.{Spot, spots_of, scan}
use Rattle.theory.specs.Texts.{list_text}
use Rattle.theory.proofs.WordLaws.{by_test}
use Rattle.theory.proofs.TableLaws.{length_usual, get_or_usual}
use Rattle.theory.proofs.PathLaws.{spot}
use Rattle.tables.specs.Lent.{IsLent}
use Rattle.bases.specs.Chains.{depth_of, loop_bytes}
use Rattle.bases.specs.Words.{is_outside, basis_in, text_of, size_in, grown, Small}
use Rattle.lists.specs.declared.TextSize.{TextSize}
use Rattle.bases.proofs.ChainLaws.{sets_append}
use Rattle.bases.proofs.SpotLaws.{text_of-append, size_in-append, one_outside, one_used, text_none}
use Rattle.bases.proofs.PathedLaws.{IsPathed, depth_small, far_in, line_text, line_length}

-- sizes are added one after the other
grown_twice : (a b d : TextSize) → grown (grown a b) d ≡ grown a (grown b d)
grown_twice a b d = λ i. record { words = words i; bytes = bytes i }
  where
    words : a.words + b.words + d.words ≡ a.words + (b.words + d.words)
    words = omega arith

    bytes : a.bytes + b.bytes + d.bytes ≡ a.bytes + (b.bytes + d.bytes)
    bytes = omega arith

-- equal parts, equal sizes
size_eq : {a b d e : ℕ} → a ≡ d → b ≡ e → ◌≡◌ {A = TextSize} (record { words = a; bytes = b }) (record { words = d; bytes = e })
size_eq p q = λ i. record { words = p i; bytes = q i }

module _ (c : Cells) (N : ℕ) (ys : List ℕ) where
  none_size : (ss : List Spot) → basis_in c N ys ss ≡ [] → size_in c N ys ss ≡ record { words = 0; bytes = 0 }
  unfolding size_in text_of list_text
  none_size ss e = size_eq (ap length e) (ap (λ l. length (list_text l)) e)

  none_text : (ss : List Spot) → basis_in c N ys ss ≡ [] → text_of c N ys ss ≡ []
  unfolding text_of list_text
  none_text ss e = ap list_text e

  pub size_used : (size : TextSize) (s : Spot) → is_outside c N ys s ≡ false
      → size ≡ grown size (size_in c N ys (s ∷ []))
  size_used size s e =
      let z = none_size (s ∷ []) (one_used c N ys s e) in
      size_eq (omega (arith, ap (λ (a : TextSize). a.words) z)) (omega (arith, ap (λ (a : TextSize). a.bytes) z))

  pub text_used : (s : Spot) → is_outside c N ys s ≡ false → text_of c N ys (s ∷ []) ≡ []
  text_used s e = none_text (s ∷ []) (one_used c N ys s e)

  one_word : (s : Spot) → is_outside c N ys s ≡ true → (size_in c N ys (s ∷ [])).words ≡ 1
  unfolding size_in
  one_word s e = ap length (one_outside c N ys s e)

  size_bytes : (ss : List Spot) → (size_in c N ys ss).bytes ≡ length (text_of c N ys ss)
  unfolding size_in
  size_bytes ss = refl

  pub start_size : size_in c N ys (scan 0 ys) ≡ record { words = 0; bytes = 0 }
  unfolding scan
  start_size = none_size [] (text_none c N ys)

pub record Sum (n N : ℕ) (t : List ℕ) (v : ℕ) (first : TextSize) (y : ℕ) (sum : TextSize) : Type 0 where
  pub letter : y ≤ 2 * n
  pub is : sum ≡ grown first (size_in (cell n N t) N (usual n) (take y (spots_of (usual n) v)))

pub record Sums (n N : ℕ) (t : List ℕ) (v : ℕ) (size : TextSize) : Type 0 where
  pub point : v ≤ N
  pub is : size ≡ size_in (cell n N t) N (usual n) (scan v (usual n))
  pub small : Small size v

pub record Lines (n N : ℕ) (t : List ℕ) (v at : ℕ) (old : List ℕ) (y to : ℕ) (out : List ℕ) : Type 0 where
  pub letter : y ≤ 2 * n
  pub wrote : out ≡ sets old at (text_of (cell n N t) N (usual n) (take y (spots_of (usual n) v)))
  pub place : to ≡ at + length (text_of (cell n N t) N (usual n) (take y (spots_of (usual n) v)))

pub record Rows (n N : ℕ) (t : List ℕ) (old : List ℕ) (v at : ℕ) (out : List ℕ) : Type 0 where
  pub point : v ≤ N
  pub wrote : out ≡ sets old 0 (text_of (cell n N t) N (usual n) (scan v (usual n)))
  pub place : at ≡ length (text_of (cell n N t) N (usual n) (scan v (usual n)))

module _ {n N : ℕ} {t work : List ℕ} (P : IsPathed n N t work) where
  abbrev c : Cells
  c = cell n N t

  abbrev text : List Spot → List ℕ
  text = text_of (cell n N t) N (usual n)

  abbrev sized : List Spot → TextSize
  sized = size_in (cell n N t) N (usual n)

  -- ── One spot ──

  module _ {v y : ℕ} (hv : v < N) (hy : y < 2 * n) where
    pub size_line : (size : TextSize) {x line : ℕ} → x ≡ cell n N t v y → is_outside (cell n N t) N (usual n) (spot v y) ≡ true
        → line ≡ depth_of N work v + depth_of N work x + 2
        → ◌≡◌ {A = TextSize} (record { words = size.words + 1; bytes = size.bytes + line }) (grown size (size_in (cell n N t) N (usual n) (spot v y ∷ [])))
    size_line size q e f =
        size_eq (omega (arith, one_word c N (usual n) (spot v y) e))
        (omega (arith, f, size_bytes c N (usual n) (spot v y ∷ []), line_length P v y hv hy q e))

    -- no line is written for an edge that a path uses
    pub word_none : (old : List ℕ) (at : ℕ) → is_outside (cell n N t) N (usual n) (spot v y) ≡ false
        → (old ≡ sets old at (text_of (cell n N t) N (usual n) (spot v y ∷ []))) × (at ≡ at + length (text_of (cell n N t) N (usual n) (spot v y ∷ [])))
    word_none old at e =
        let z = text_used c N (usual n) (spot v y) e in (sym (ap (sets old at) z), omega (arith, ap length z))

    pub word_line : (old : List ℕ) (at : ℕ) {x end : ℕ} {out : List ℕ} → x ≡ cell n N t v y → is_outside (cell n N t) N (usual n) (spot v y) ≡ true
        → out ≡ sets old at (loop_bytes N work v y x) → end ≡ at + depth_of N work v + depth_of N work x + 2
        → (out ≡ sets old at (text_of (cell n N t) N (usual n) (spot v y ∷ []))) × (end ≡ at + length (text_of (cell n N t) N (usual n) (spot v y ∷ [])))
    word_line old at q e f g = (f ∙ ap (sets old at) (sym (line_text P v y hv hy q e)), omega (arith, g, line_length P v y hv hy q e))

    spot_small : ((sized (spot v y ∷ [])).words ≤ 1) × ((sized (spot v y ∷ [])).bytes ≤ 2097154)
    spot_small =
        by_test (is_outside c N (usual n) (spot v y))
        (λ e. (
          omega (arith, one_word c N (usual n) (spot v y) e),
          omega (
            arith,
            size_bytes c N (usual n) (spot v y ∷ []),
            line_length P v y hv hy refl e,
            depth_small P v hv,
            depth_small P (c v y) (far_in P v y hv hy refl e),
            P.sound.lent.points,
          ),
        ))
        (λ e. let z = none_size c N (usual n) (spot v y ∷ []) (one_used c N (usual n) (spot v y) e) in
        (omega (arith, ap (λ (a : TextSize). a.words) z), omega (arith, ap (λ (a : TextSize). a.bytes) z)))

  -- ── One row ──

  -- the first y spots of row v
  abbrev row : ℕ → ℕ → List Spot
  row v y = take y (spots_of (usual n) v)

  length_row : (v : ℕ) → length (spots_of (usual n) v) ≡ 2 * n
  unfolding spots_of
  length_row v = length-map (usual n) (spot v) ∙ length_usual n

  row_more : (v y : ℕ) → y < 2 * n → row v (suc y) ≡ row v y ++ (spot v y ∷ [])
  unfolding spots_of
  row_more v y h =
      take-suc (spots_of (usual n) v) y (spot v 0) (omega (arith, length_row v))
      ∙ ap (λ s. row v y ++ (s ∷ [])) (get_or-map (spot v) (usual n) y 0 ∙ ap (spot v) (get_or_usual n y h))

  row_whole : (v y : ℕ) → 2 * n ≤ y → row v y ≡ spots_of (usual n) v
  row_whole v y h = take_all y (spots_of (usual n) v) (omega (arith, length_row v))

  row_size : (v y : ℕ) → y < 2 * n → sized (row v (suc y)) ≡ grown (sized (row v y)) (sized (spot v y ∷ []))
  row_size v y h = ap sized (row_more v y h) ∙ size_in-append c N (usual n) (row v y) (spot v y ∷ [])

  row_small : (v y : ℕ) → v < N → y ≤ 2 * n → ((sized (row v y)).words ≤ y) × ((sized (row v y)).bytes ≤ 2097154 * y)
  row_small v zero hv h =
      let z = none_size c N (usual n) [] (text_none c N (usual n)) in
      (omega (arith, ap (λ (a : TextSize). a.words) z), omega (arith, ap (λ (a : TextSize). a.bytes) z))
  row_small v (suc y) hv h =
      let r = row_small v y hv (omega arith) in
      let s = spot_small hv (let l : y < 2 * n = omega arith in l) in
      let z = row_size v y (omega arith) in
      (omega (arith, r.0, s.0, ap (λ (a : TextSize). a.words) z), omega (arith, r.1, s.1, ap (λ (a : TextSize). a.bytes) z))

  -- ── Sizes ──

  module _ {v : ℕ} {first : TextSize} (hv : v < N) (small : Small first v) where
    pub sum_first : Sum n N t v first 0 first
    sum_first =
        let z = none_size c N (usual n) [] (text_none c N (usual n)) in
        record {
          letter = omega arith;
          is = size_eq (omega (arith, ap (λ (a : TextSize). a.words) z)) (omega (arith, ap (λ (a : TextSize). a.bytes) z));
        }

    module _ {y : ℕ} {sum : TextSize} (S : Sum n N t v first y sum) where
      pub sum_small : (sum.words ≤ 200000000) × (sum.bytes ≤ 200000000000000)
      sum_small =
          let r = row_small v y hv S.letter in
          let s = P.sound.lent in (
            omega (arith, r.0, small.0, S.letter, s.letters, s.points, hv, ap (λ (a : TextSize). a.words) S.is),
            omega (arith, r.1, small.1, S.letter, s.letters, s.points, hv, ap (λ (a : TextSize). a.bytes) S.is),
          )

      pub sum_turn : {after : TextSize} → y < 2 * n → after ≡ grown sum (size_in (cell n N t) N (usual n) (spot v y ∷ [])) → Sum n N t v first (y + 1) after
      sum_turn {after} h e =
          rw (add-one y)
          (record {
            letter = omega arith;
            is = e ∙ ap (λ a. grown a (sized (spot v y ∷ []))) S.is ∙ grown_twice first (sized (row v y)) (sized (spot v y ∷ [])) ∙ ap (grown first) (sym (row_size v y h));
          })

      pub sum_done : 2 * n ≤ y → sum ≡ grown first (size_in (cell n N t) N (usual n) (spots_of (usual n) v))
      sum_done h = S.is ∙ ap (λ l. grown first (sized l)) (row_whole v y h)

  pub sums_first : Sums n N t 0 (record { words = 0; bytes = 0 })
  sums_first = record { point = omega arith; is = sym (start_size c N (usual n)); small = (omega arith, omega arith) }

  pub sums_turn : {v : ℕ} {size after : TextSize} → Sums n N t v size → v < N
      → after ≡ grown size (size_in (cell n N t) N (usual n) (spots_of (usual n) v)) → Sums n N t (v + 1) after
  unfolding scan
  sums_turn {v} {size} {after} S h e =
      rw (add-one v)
      (record {
        point = omega arith;
        is = e ∙ ap (λ a. grown a (sized (spots_of (usual n) v))) S.is ∙ sym (size_in-append c N (usual n) (scan v (usual n)) (spots_of (usual n) v));
        small = (
          omega (arith, r.0, S.small.0, s.letters, ap (λ (a : TextSize). a.words) e, ap (λ (a : TextSize). a.words) w),
          omega (arith, r.1, S.small.1, s.letters, ap (λ (a : TextSize). a.bytes) e, ap (λ (a : TextSize). a.bytes) w),
        );
      })
    where
      r : ((sized (row v (2 * n))).words ≤ 2 * n) × ((sized (row v (2 * n))).bytes ≤ 2097154 * (2 * n))
      r = row_small v (2 * n) h (omega arith)

      s : IsLent n N t
      s = P.sound.lent

      w : sized (row v (2 * n)) ≡ sized (spots_of (usual n) v)
      w = ap sized (row_whole v (2 * n) (omega arith))

  pub sums_done : {v : ℕ} {size : TextSize} → Sums n N t v size → N ≤ v → size ≡ size_in (cell n N t) N (usual n) (scan N (usual n))
  sums_done {v} S h = S.is ∙ ap (λ u. sized (scan u (usual n))) (let e : v ≡ N = omega (arith, S.point) in e)

  -- ── Lines ──

  row_text : (v y : ℕ) → y < 2 * n → text (row v (suc y)) ≡ text (row v y) ++ text (spot v y ∷ [])
  row_text v y h = ap text (row_more v y h) ∙ text_of-append c N (usual n) (row v y) (spot v y ∷ [])

  -- the text of some spots is no longer than that of all
  part_text : (v y : ℕ) → length (text (row v y)) ≤ length (text (spots_of (usual n) v))
  part_text v y =
      let e = ap text (sym (take-append-drop y (spots_of (usual n) v))) ∙ text_of-append c N (usual n) (row v y) (drop y (spots_of (usual n) v)) in
      omega (arith, ap length e, length-append (text (row v y)) (text (drop y (spots_of (usual n) v))))

  module _ {v at : ℕ} {old : List ℕ} where
    pub lines_first : Lines n N t v at old 0 at old
    lines_first =
        let e = none_text c N (usual n) [] (text_none c N (usual n)) in
        record {
          letter = omega arith;
          wrote = sym (ap (sets old at) e);
          place = omega (arith, ap length e);
        }

    module _ {y to : ℕ} {out : List ℕ} (L : Lines n N t v at old y to out) where
      pub lines_length : length out ≡ length old
      lines_length = ap length L.wrote ∙ length-sets old at (text (row v y))

      pub lines_room : y < 2 * n → at + length (text_of (cell n N t) N (usual n) (spots_of (usual n) v)) ≤ length old
          → to + length (text_of (cell n N t) N (usual n) (spot v y ∷ [])) ≤ length out
      lines_room h r =
          omega (arith, L.place, lines_length, part_text v (suc y), ap length (row_text v y h), length-append (text (row v y)) (text (spot v y ∷ [])))

      pub lines_turn : {to' : ℕ} {out' : List ℕ} → y < 2 * n → out' ≡ sets out to (text_of (cell n N t) N (usual n) (spot v y ∷ []))
          → to' ≡ to + length (text_of (cell n N t) N (usual n) (spot v y ∷ [])) → Lines n N t v at old (y + 1) to' out'
      lines_turn {to'} {out'} h e f =
          rw (add-one y)
          (record {
            letter = omega arith;
            wrote =
                e
                ∙ ap (λ l. sets l to (text (spot v y ∷ []))) L.wrote
                ∙ ap (λ i. sets (sets old at (text (row v y))) i (text (spot v y ∷ []))) L.place
                ∙ sets_append old at (text (row v y)) (text (spot v y ∷ []))
                ∙ ap (sets old at) (sym (row_text v y h));
            place = omega (arith, f, L.place, ap length (row_text v y h), length-append (text (row v y)) (text (spot v y ∷ [])));
          })

      pub lines_done : 2 * n ≤ y → (out ≡ sets old at (text_of (cell n N t) N (usual n) (spots_of (usual n) v)))
          × (to ≡ at + length (text_of (cell n N t) N (usual n) (spots_of (usual n) v)))
      lines_done h = (
        L.wrote ∙ ap (λ l. sets old at (text l)) (row_whole v y h),
        L.place ∙ ap (λ l. at + length (text l)) (row_whole v y h),
      )

  scan_text : (v : ℕ) → text (scan (suc v) (usual n)) ≡ text (scan v (usual n)) ++ text (spots_of (usual n) v)
  unfolding scan
  scan_text v = text_of-append c N (usual n) (scan v (usual n)) (spots_of (usual n) v)

  scan_part : (v k : ℕ) → length (text (scan v (usual n))) ≤ length (text (scan (v + k) (usual n)))
  scan_part v zero = omega (arith, ap (λ u. length (text (scan u (usual n)))) (add-zero v))
  scan_part v (suc k) =
      let e : v + suc k ≡ suc (v + k) = omega arith in
      omega (
        arith,
        scan_part v k,
        ap (λ u. length (text (scan u (usual n)))) e,
        ap length (scan_text (v + k)),
        length-append (text (scan (v + k) (usual n))) (text (spots_of (usual n) (v + k))),
      )

  module _ {old : List ℕ} where
    pub rows_first : Rows n N t old 0 0 old
    unfolding scan
    rows_first =
        let e = none_text c N (usual n) [] (text_none c N (usual n)) in
        record { point = omega arith; wrote = sym (ap (sets old 0) e); place = sym (ap length e) }

    module _ {v at : ℕ} {out : List ℕ} (W : Rows n N t old v at out) where
      pub rows_length : length out ≡ length old
      rows_length = ap length W.wrote ∙ length-sets old 0 (text (scan v (usual n)))

      pub rows_room : v < N → length (text_of (cell n N t) N (usual n) (scan N (usual n))) ≤ length old
          → at + length (text_of (cell n N t) N (usual n) (spots_of (usual n) v)) ≤ length out
      rows_room h r = go (N - suc v) (omega arith)
        where
          go : (k : ℕ) → suc v + k ≡ N → at + length (text (spots_of (usual n) v)) ≤ length out
          go k e =
              omega (
                arith,
                W.place,
                rows_length,
                scan_part (suc v) k,
                ap (λ u. length (text (scan u (usual n)))) e,
                ap length (scan_text v),
                length-append (text (scan v (usual n))) (text (spots_of (usual n) v)),
              )

      pub rows_turn : {to : ℕ} {out' : List ℕ} → v < N → out' ≡ sets out at (text_of (cell n N t) N (usual n) (spots_of (usual n) v))
          → to ≡ at + length (text_of (cell n N t) N (usual n) (spots_of (usual n) v)) → Rows n N t old (v + 1) to out'
      rows_turn {to} {out'} h e f =
          rw (add-one v)
          (record {
            point = omega arith;
            wrote =
                e
                ∙ ap (λ l. sets l at (text (spots_of (usual n) v))) W.wrote
                ∙ ap (λ i. sets (sets old 0 (text (scan v (usual n)))) i (text (spots_of (usual n) v))) (W.place ∙ (let z : length (text (scan v (usual n))) ≡ 0 + length (text (scan v (usual n))) = omega arith in z))
                ∙ sets_append old 0 (text (scan v (usual n))) (text (spots_of (usual n) v))
                ∙ ap (sets old 0) (sym (scan_text v));
            place = omega (arith, f, W.place, ap length (scan_text v), length-append (text (scan v (usual n))) (text (spots_of (usual n) v)));
          })

      pub rows_done : N ≤ v → out ≡ sets old 0 (text_of (cell n N t) N (usual n) (scan N (usual n)))
      rows_done h = W.wrote ∙ ap (λ u. sets old 0 (text (scan u (usual n)))) (let e : v ≡ N = omega (arith, W.point) in e)
