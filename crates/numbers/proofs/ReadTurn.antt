-- The turns of `find_number` on plain values: a number stands at `at` exactly if what is read and the rest of it, from i on, make it.
--   Head                                       : d groups may follow, at `scale`, behind those that make `value`
--   Turn, turn_first, turn_small, turn_next, turn_last, turn_end : so in the terms of the loop: before the first turn, after a group that goes on,
--                                                at a last group, at no byte
-- Assumes nothing.
use mathlib.Core.Path.{◌≡◌, refl, sym, ◌∙◌, ap, subst}
use mathlib.Core.Logic.{by_cases}
use mathlib.Core.Bool.{Bool, true, false, cond}
use mathlib.Core.List.{List, ◌∷◌, ◌++◌}
use Prim.Native.Nat.{ℕ, zero, suc, ◌+◌, ◌-◌, ◌*◌, ◌/◌, ◌%◌, ◌≤◌, ◌<◌}
use native.Mathlib.Decide.{ℕ_discrete, dec_lt}
use native.Mathlib.Nat.{mul-add, mul_assoc, mul-le-mul, mul-le-mul_left}
use native.Mathlib.Numerals.{add-one}
use native.Mathlib.Omega.{arith}
use lib.Dec.{ltb}
use lib.ListN.{length, get_or, drop, length-drop, length-append}
use lib.Seq.{drop-cons}
use borrow.Author.Tests.{eq-eqb, ne_eqb, lt-ltb, le-ltb}
use Rattle.theory.specs.Files.{number_limit, groups, number_bytes, NumberAt}
use Rattle.std.specs.declared.option.Option.{Option}
use Rattle.std.specs.declared.option.Option.TheVariants.{None, Some}
use Rattle.numbers.specs.declared.Number.{Number}
use Rattle.numbers.specs.Reads.{FoundAt, is_needless, last_read}
use Rattle.numbers.proofs.NumberLaws.{groups_last, groups_next, groups_some}

-- what is left of a number, from i on
pub record Rest (file : List ℕ) (i d scale y : ℕ) : Type 0 where
  pub more : 1 < scale → 0 < y
  pub tail : List ℕ
  pub written : drop i file ≡ groups d y ++ tail

-- scales of the groups, by how many may follow
abbrev scale_at : ℕ → ℕ
scale_at zero = 34359738368
scale_at (suc zero) = 268435456
scale_at (suc (suc zero)) = 2097152
scale_at (suc (suc (suc zero))) = 16384
scale_at (suc (suc (suc (suc zero)))) = 128
scale_at (suc (suc (suc (suc (suc d))))) = 1

pub record Head (file : List ℕ) (at value scale i d : ℕ) : Type 0 where
  pub place : i + d ≡ at + 5
  pub few : d ≤ 5
  pub inside : i ≤ length file
  pub low : value < scale
  pub scaled : scale ≡ scale_at d
  pub only : (x : ℕ) → NumberAt file at x → (y : ℕ) × (x ≡ value + scale * y) × Rest file i d scale y
  pub made : (y : ℕ) (r : Rest file i d scale y) → drop at file ≡ number_bytes (value + scale * y) ++ r.tail

-- ── Scales ──

scale_next : (d s : ℕ) → suc d ≤ 5 → s ≡ scale_at (suc d) → s * 128 ≡ scale_at d
scale_next zero s h e = omega (arith, e)
scale_next (suc zero) s h e = omega (arith, e)
scale_next (suc (suc zero)) s h e = omega (arith, e)
scale_next (suc (suc (suc zero))) s h e = omega (arith, e)
scale_next (suc (suc (suc (suc zero)))) s h e = omega (arith, e)
scale_next (suc (suc (suc (suc (suc d))))) s h e = absurd (omega arith)

scale_small : (d s : ℕ) → 0 < d → s ≡ scale_at d → s ≤ 268435456
scale_small zero s h e = absurd (omega arith)
scale_small (suc zero) s h e = omega (arith, e)
scale_small (suc (suc zero)) s h e = omega (arith, e)
scale_small (suc (suc (suc zero))) s h e = omega (arith, e)
scale_small (suc (suc (suc (suc zero)))) s h e = omega (arith, e)
scale_small (suc (suc (suc (suc (suc d))))) s h e = omega (arith, e)

scaled_low : {scale b : ℕ} → scale ≤ 268435456 → b ≤ 127 → scale * b ≤ 34091302912
scaled_low h k = mul-le-mul h k

group_low : {scale b : ℕ} → scale ≤ 268435456 → b < 256 → scale * (b - 128) ≤ 34091302912
group_low {scale} {b} h k = scaled_low h less
  where
    less : b - 128 ≤ 127
    less = omega arith

-- a number of a group and others, at a scale
shift : (s r q y : ℕ) → y ≡ r + 128 * q → s * y ≡ s * r + s * 128 * q
shift s r q y e = ap (λ z. s * z) e ∙ mul-add s r (128 * q) ∙ ap (λ z. s * r + z) (sym (mul_assoc s 128 q))

-- ── The turns ──

head_first : (file : List ℕ) (at : ℕ) → at ≤ length file → Head file at 0 1 at 5
unfolding number_bytes
head_first file at h =
    record {
      place = refl;
      few = omega arith;
      inside = h;
      low = omega arith;
      scaled = refl;
      only = λ x n. (x, omega arith, record { more = λ k. absurd (omega arith); tail = n.rest; written = n.written });
      made = λ y r. r.written ∙ ap (λ z. groups 5 z ++ r.tail) (is y);
    }
  where
    is : (y : ℕ) → y ≡ 0 + 1 * y
    is y = omega arith

module _ {file : List ℕ} {at value scale i d : ℕ} (h : Head file at value scale i d) where
  head_begun : at ≤ i
  head_begun = omega (arith, h.place, h.few)

module _ {file : List ℕ} {at value scale i d : ℕ} (h : Head file at value scale i (suc d)) (b : ℕ) (inside : i < length file) (is : b ≡ get_or file i 0) where
  -- the byte at i stands before the others
  here : drop i file ≡ b ∷ drop (suc i) file
  here = drop-cons file i 0 inside ∙ ap (λ z. z ∷ drop (suc i) file) (sym is)

  -- a rest that starts with a last group is that group, and any other rest goes on behind its first group
  last_is : (y : ℕ) → Rest file i (suc d) scale y → y < 128 → b ≡ y
  last_is y r l = ap (λ l. get_or l 0 0) (sym here ∙ r.written ∙ ap (λ l. l ++ r.tail) (groups_last d y l))

  next_is : (y : ℕ) (r : Rest file i (suc d) scale y) → 128 ≤ y → (b ≡ y % 128 + 128) × (drop (suc i) file ≡ groups d (y / 128) ++ r.tail)
  next_is y r l = (ap (λ l. get_or l 0 0) same, ap (λ l. drop 1 l) same)
    where
      same : b ∷ drop (suc i) file ≡ (y % 128 + 128) ∷ (groups d (y / 128) ++ r.tail)
      same = sym here ∙ r.written ∙ ap (λ l. l ++ r.tail) (groups_next d y l)

  module _ (l : 128 ≤ b) (u : b < 256) where
    turn_low : value + scale * (b - 128) < scale * 128
    turn_low = omega (arith, h.low, mul-le-mul_left scale less)
      where
        less : b - 128 ≤ 127
        less = omega arith

    turn_only : (x : ℕ) → NumberAt file at x
        → (y : ℕ) × (x ≡ value + scale * (b - 128) + scale * 128 * y) × Rest file (i + 1) d (scale * 128) y
    turn_only x n =
        let o = h.only x n in
        let k : 128 ≤ o.0 = by_cases (dec_lt o.0 128) (λ s. omega (arith, last_is o.0 o.2 s)) (λ s. omega arith) in
        let g = next_is o.0 o.2 k in
        let e : o.0 ≡ (b - 128) + 128 * (o.0 / 128) = omega (arith, g.0) in (
          o.0 / 128,
          omega (arith, o.1, shift scale (b - 128) (o.0 / 128) o.0 e),
          record { more = λ _. omega arith; tail = o.2.tail; written = rw (add-one i) g.1 },
        )

    turn_made : (y : ℕ) (r : Rest file (i + 1) d (scale * 128) y)
        → drop at file ≡ number_bytes (value + scale * (b - 128) + scale * 128 * y) ++ r.tail
    turn_made y r = h.made z rest ∙ ap (λ x. number_bytes x ++ r.tail) value_is
      where
        z : ℕ
        z = (b - 128) + 128 * y

        some : 0 < y
        some = r.more (omega (arith, h.low))

        group : z % 128 + 128 ≡ b
        group = omega arith

        others : z / 128 ≡ y
        others = omega arith

        rest : Rest file i (suc d) scale z
        rest =
            record {
              more = λ _. omega (arith, some);
              tail = r.tail;
              written =
                  here
                  ∙ ap (λ l. b ∷ l) (ap (λ k. drop k file) (sym (add-one i)) ∙ r.written)
                  ∙ ap (λ k. k ∷ (groups d y ++ r.tail)) (sym group)
                  ∙ ap (λ k. (z % 128 + 128) ∷ (groups d k ++ r.tail)) (sym others)
                  ∙ ap (λ l. l ++ r.tail) (sym (groups_next d z (omega (arith, some))));
            }

        value_is : value + scale * z ≡ value + scale * (b - 128) + scale * 128 * y
        value_is = omega (arith, shift scale (b - 128) y z refl)

    turned : Head file at (value + scale * (b - 128)) (scale * 128) (i + 1) d
    turned =
        record {
          place = omega (arith, h.place);
          few = omega (arith, h.few);
          inside = omega (arith, inside);
          low = turn_low;
          scaled = scale_next d scale h.few h.scaled;
          only = turn_only;
          made = turn_made;
        }

  -- ── A last group ──

  module _ (l : b < 128) where
    -- what stands there can only be this
    last_only : (x : ℕ) → NumberAt file at x → (x ≡ value + scale * b) × (1 < scale → 0 < b)
    last_only x n =
        let o = h.only x n in
        let k : o.0 < 128 = by_cases (dec_lt o.0 128) (λ s. s) (λ s. omega (arith, (next_is o.0 o.2 (omega arith)).0)) in
        let e = last_is o.0 o.2 k in (
          o.1 ∙ ap (λ y. value + scale * y) (sym e),
          λ m. omega (arith, o.2.more m, e),
        )

    last_good : (1 < scale → 0 < b) → value + scale * b ≤ number_limit → FoundAt file at (Some (record { value = value + scale * b; next = i + 1 }))
    last_good m f = (
      record { fits = f; rest = drop (suc i) file; written = whole },
      omega (arith, ap length whole, length-drop at file, length-drop (suc i) file, length-append (number_bytes (value + scale * b)) (drop (suc i) file), head_begun h),
    )
      where
        whole : drop at file ≡ number_bytes (value + scale * b) ++ drop (suc i) file
        whole =
            h.made b
            (record { more = m; tail = drop (suc i) file; written = here ∙ ap (λ k. k ++ drop (suc i) file) (sym (groups_last d b l)) })

    cast : {q r : Option Number} → q ≡ r → FoundAt file at q → FoundAt file at r
    cast e m = subst (FoundAt file at) e m

    none_read : ((x : ℕ) → NumberAt file at x → ⊥) → FoundAt file at None
    none_read f = f

    fit : last_read value scale b (i + 1) ≡ cond {A = Option Number} (ltb number_limit (value + scale * b)) None (Some (record { value = value + scale * b; next = i + 1 })) → (1 < scale → 0 < b)
        → FoundAt file at (last_read value scale b (i + 1))
    fit e m =
        by_cases (dec_lt number_limit (value + scale * b))
        (λ s. cast (sym (e ∙ big s))
        (none_read (λ x n. omega (arith, (last_only x n).0, n.fits))))
        (λ s. cast (sym (e ∙ small (omega arith)))
        (last_good m (omega arith)))
      where
        big : number_limit < value + scale * b → cond {A = Option Number} (ltb number_limit (value + scale * b)) None (Some (record { value = value + scale * b; next = i + 1 })) ≡ None
        big s = rw (lt-ltb number_limit (value + scale * b) s)

        small : value + scale * b ≤ number_limit
            → cond {A = Option Number} (ltb number_limit (value + scale * b)) None (Some (record { value = value + scale * b; next = i + 1 })) ≡ Some (record { value = value + scale * b; next = i + 1 })
        small s = rw (le-ltb number_limit (value + scale * b) s)

    last_read_lem : FoundAt file at (last_read value scale b (i + 1))
    unfolding last_read is_needless
    last_read_lem =
        by_cases (ℕ_discrete b 0)
        (λ z. by_cases (dec_lt 1 scale)
        (λ s. cast (sym (needless z s)) (none_read (λ x n. omega (arith, (last_only x n).1 s))))
        (λ s. fit (rw (eq-eqb b 0 z, le-ltb 1 scale (omega arith))) (λ m. absurd (omega arith))))
        (λ z. fit (rw (ne_eqb b 0 z)) (λ m. omega arith))
      where
        needless : b ≡ 0 → 1 < scale → last_read value scale b (i + 1) ≡ None
        needless z s = rw (eq-eqb b 0 z, lt-ltb 1 scale s)

-- ── In the terms of the code: `count` bytes are read, `left` may follow, and `rest` stands from there on ──

pub record Turn (file : List ℕ) (at value scale : ℕ) (rest : List ℕ) (left count : ℕ) : Type 0 where
  pub head : Head file at value scale (at + count) left
  pub here : rest ≡ drop (at + count) file

pub turn_first : (file : List ℕ) (at : ℕ) → at ≤ length file → Turn file at 0 1 (drop at file) 5 0
turn_first file at h =
    record {
      head = subst (λ i. Head file at 0 1 i 5) (is at) (head_first file at h);
      here = ap (λ i. drop i file) (is at);
    }
  where
    is : (at : ℕ) → at ≡ at + 0
    is at = omega arith

module _ {file : List ℕ} {at value scale left count : ℕ} {rest : List ℕ} (h : Turn file at value scale rest left count) where
  -- no byte is left
  turn_cut : 0 < left → length rest ≡ 0 → (x : ℕ) → NumberAt file at x → ⊥
  turn_cut l e x n = go left l h.head (h.head.only x n)
    where
      go : (d : ℕ) → 0 < d → Head file at value scale (at + count) d → (y : ℕ) × (x ≡ value + scale * y) × Rest file (at + count) d scale y → ⊥
      go zero k g o = omega arith
      go (suc d) k g o =
          omega (arith, e, ap length (h.here ∙ o.2.written), length-append (groups (suc d) o.0) o.2.tail, groups_some d o.0)

  -- five groups that go on make a number that is too big
  turn_long : left ≡ 0 → (x : ℕ) → NumberAt file at x → ⊥
  turn_long z x n =
      let o = h.head.only x n in
      let big = h.head.scaled ∙ ap scale_at z in
      omega (arith, n.fits, o.1, ap (λ s. s * o.0) big, o.2.more (omega (arith, big)))

  pub turn_end : (0 < left → length rest ≡ 0) → (x : ℕ) → NumberAt file at x → ⊥
  turn_end e = by_cases (dec_lt 0 left) (λ l. turn_cut l (e l)) (λ l. turn_long (omega (arith, l)))

  module _ {b : ℕ} (left' : ℕ) {rest' : List ℕ} (is : rest ≡ b ∷ rest') (less : left' + 1 ≡ left) where
    more : drop (at + count) file ≡ b ∷ rest'
    more = sym h.here ∙ is

    one_left : Head file at value scale (at + count) (suc left')
    one_left = subst (Head file at value scale (at + count)) (sym less ∙ add-one left') h.head

    inside : at + count < length file
    inside = omega (arith, ap length more, length-drop (at + count) file)

    byte : b ≡ get_or file (at + count) 0
    byte = sym (ap (λ l. get_or l 0 0) (sym (drop-cons file (at + count) 0 inside) ∙ more))

    -- all that is computed is small
    pub turn_small : ((k : ℕ) → get_or file k 0 < 256) → (value < 268435456) × (scale ≤ 268435456) × (scale * (b - 128) ≤ 34091302912)
    turn_small fits = (omega (arith, h.head.low, small), small, group_low small (omega (arith, byte, fits (at + count))))
      where
        small : scale ≤ 268435456
        small = scale_small left scale (omega (arith, less)) h.head.scaled

    pub turn_last : {r : Option Number} → b < 128 → r ≡ last_read value scale b (at + count + 1) → FoundAt file at r
    turn_last k f = subst (FoundAt file at) (sym f) (last_read_lem one_left b inside byte k)

    pub turn_next : 128 ≤ b → ((k : ℕ) → get_or file k 0 < 256) → Turn file at (value + scale * (b - 128)) (scale * 128) rest' left' (count + 1)
    turn_next k fits =
        record {
          head = subst (λ i. Head file at (value + scale * (b - 128)) (scale * 128) i left') (on at count) (turned one_left b inside byte k (omega (arith, byte, fits (at + count))));
          here = ap (drop 1) (sym more ∙ drop-cons file (at + count) 0 inside) ∙ ap (λ i. drop i file) (next at count);
        }
      where
        on : (at count : ℕ) → at + count + 1 ≡ at + (count + 1)
        on at count = omega arith

        next : (at count : ℕ) → suc (at + count) ≡ at + (count + 1)
        next at count = omega arith

-- ── The last group, as code finds it ──

module _ (b scale : ℕ) where
  pub needless_some : 0 < b → false ≡ is_needless b scale
  unfolding is_needless
  needless_some h = rw (ne_eqb b 0 (λ z. omega arith))

  pub needless_alone : b ≤ 0 → scale ≤ 1 → false ≡ is_needless b scale
  unfolding is_needless
  needless_alone h k = rw (eq-eqb b 0 (omega arith), le-ltb 1 scale k)

  pub needless_behind : b ≤ 0 → 1 < scale → true ≡ is_needless b scale
  unfolding is_needless
  needless_behind h k = rw (eq-eqb b 0 (omega arith), lt-ltb 1 scale k)

module _ (value scale b next : ℕ) {r : Bool} (is : r ≡ is_needless b scale) where
  pub last_needless : r ≡ true → None ≡ last_read value scale b next
  unfolding last_read
  last_needless e = rw (sym is ∙ e)

  pub last_big : r ≡ false → number_limit < value + scale * b → None ≡ last_read value scale b next
  unfolding last_read
  last_big e h = rw (sym is ∙ e, lt-ltb number_limit (value + scale * b) h)

  pub last_number : r ≡ false → value + scale * b ≤ number_limit → Some (record { value = value + scale * b; next = next }) ≡ last_read value scale b next
  unfolding last_read
  last_number e h = rw (sym is ∙ e, le-ltb number_limit (value + scale * b) h)
