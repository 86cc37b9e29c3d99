-- An exchange on plain values (engine, `TradeLaws`).
--   mend_none, mend_first, mend_second, mend_far : the outcomes of `mend`
--   traded : those of `trade`
--   Head n R old k p y t <-> the turns of the letters below y are done
--   head_first, head_asks, head_turn, head_done : so it is at first and after a turn; what a turn asks; the end
-- Assumes nothing.
use mathlib.Core.Path.{◌≡◌, refl, sym, ◌∙◌, subst, subst₂}
use mathlib.Core.List.{List}
use Prim.Native.Nat.{ℕ, ◌+◌, ◌*◌, ◌≤◌, ◌<◌}
use native.Mathlib.Numerals.{add-one}
use native.Mathlib.Omega.{arith}
use borrow.Author.Tests.{eq-eqb, ne_eqb, le-ltb}
use Rattle.theory.specs.Words.{inv}
use Rattle.theory.specs.Tables.{absent, Cells, cell}
use Rattle.theory.proofs.TableLaws.{length_usual, get_or_usual, cell_bounded}
use Rattle.engine.specs.Cells.{put, exchanged, trading, mended, traded_by, traded_at}
use Rattle.engine.specs.Work.{Holds}
use Rattle.engine.proofs.HoldLaws.{holds_first, holds_as}
use Rattle.engine.proofs.TradeLaws.{trading_start, trading_turn, trading_end}
use Rattle.numbering.specs.Numbered.{Roomed}
use Rattle.numbering.specs.Steps.{ends_traded, Tradable}
use Rattle.numbering.proofs.StepLaws.{holds_step, inside_then, roomed_inside, point_as, cell_point}

-- ── Mending a far end ──

module _ {n R : ℕ} {t : List ℕ} (k p q y x : ℕ) where
  pub mend_none : q ≡ absent → Holds n R t (mended (cell n R t) k p q y x) t
  unfolding mended
  mend_none e = rw (eq-eqb q absent e) (holds_first n R t)

  pub mend_first : (q ≡ absent → ⊥) → q ≡ k → Holds n R t (mended (cell n R t) k p q y x) t
  unfolding mended
  mend_first a e = rw (ne_eqb q absent a, eq-eqb q k e) (holds_first n R t)

  pub mend_second : (q ≡ absent → ⊥) → (q ≡ k → ⊥) → q ≡ p → Holds n R t (mended (cell n R t) k p q y x) t
  unfolding mended
  mend_second a b e = rw (ne_eqb q absent a, ne_eqb q k b, eq-eqb q p e) (holds_first n R t)

  -- a point other than k and p
  pub mend_far : {z : ℕ} {after : List ℕ} → (q ≡ absent → ⊥) → (q ≡ k → ⊥) → (q ≡ p → ⊥) → z ≡ inv y
      → Holds n R t (put (cell n R t) q z x) after → Holds n R t (mended (cell n R t) k p q y x) after
  unfolding mended
  mend_far {z} {after} a b d e h =
      rw (ne_eqb q absent a, ne_eqb q k b, ne_eqb q p d) (subst (λ l. Holds n R t (put (cell n R t) q l x) after) e h)

-- ── A turn ──

module _ {n R : ℕ} {t mid after : List ℕ} (k p y a b : ℕ) where
  -- the ends traded, and then both far ends mended: that of a gets the name p, that of b the name k
  pub traded : {far : List ℕ} {x z : ℕ} → a ≡ cell n R t k y → b ≡ cell n R t p y
      → Holds n R t (ends_traded (cell n R t) k p y a b) mid → Holds n R mid (mended (cell n R mid) k p a y x) far
      → Holds n R far (mended (cell n R far) k p b y z) after → x ≡ p → z ≡ k → Holds n R t (traded_at (cell n R t) k p y) after
  unfolding traded_by
  traded {far} {x} {z} e d h f g i j =
      subst₂ (λ u v. Holds n R t (traded_by (cell n R t) k p y u v) after) e d
      (holds_step (holds_step h (λ c. mended c k p a y p) (subst (λ q. Holds n R mid (mended (cell n R mid) k p a y q) far) i f))
      (λ c. mended c k p b y k) (subst (λ q. Holds n R far (mended (cell n R far) k p b y q) after) j g))

-- ── The loop ──

pub record Head (n R : ℕ) (old : List ℕ) (k p y : ℕ) (t : List ℕ) : Type 0 where
  pub held : Holds n R old (trading (cell n R old) k p y) t

-- before its turn a letter's cells in rows k and p are as they were
module _ (c : Cells) (k p i : ℕ) where
  trading_near : trading c k p i k i ≡ c k i
  unfolding trading
  trading_near = rw (eq-eqb k k refl, le-ltb i i (omega arith))

  trading_far : (k ≡ p → ⊥) → trading c k p i p i ≡ c p i
  unfolding trading
  trading_far d = rw (ne_eqb p k (λ e. d (sym e)), eq-eqb p p refl, le-ltb i i (omega arith))

pub head_first : {n R : ℕ} {old : List ℕ} {k p : ℕ} → Head n R old k p 0 old
head_first {n} {R} {old} {k} {p} =
    record { held = holds_as (λ v z. sym (trading_start (cell n R old) k p v z)) (holds_first n R old) }

module _ {n R : ℕ} {old : List ℕ} {k p y : ℕ} {t : List ℕ} (r : Roomed n R old) (hk : k < R) (hp : p < R) (d : k ≡ p → ⊥)
    (h : Head n R old k p y t) where
  pub head_asks : {m : ℕ} → y < 2 * n → Tradable (record { n = n; rows = R; made = m }) t k p y
  head_asks l =
      record {
        first = inside_then (roomed_inside r hk l) h.held;
        second = inside_then (roomed_inside r hp l) h.held;
        near = point_as (h.held.cells k y ∙ trading_near (cell n R old) k p y) (cell_point r k y);
        far = point_as (h.held.cells p y ∙ trading_far (cell n R old) k p y d) (cell_point r p y);
      }

  nk : k ≡ absent → ⊥
  nk e = omega (arith, r.fits)

  np : p ≡ absent → ⊥
  np e = omega (arith, r.fits)

  pub head_turn : {after : List ℕ} → Holds n R t (traded_at (cell n R t) k p y) after → Head n R old k p (y + 1) after
  head_turn g =
      record {
        held =
            rw (add-one y)
            (holds_as (trading_turn (cell n R old) k p nk np d r.inverse y) (holds_step h.held (λ c. traded_at c k p y) g));
      }

  -- only letters of the table have cells
  letters : 2 * n ≤ y → (v z : ℕ) → (cell n R old v z ≡ absent → ⊥) → z < y
  letters l v z f =
      let s = (cell_bounded n R old v z f).1 in
      omega (arith, length_usual n, s.1, s.2, get_or_usual n s.0 (omega (arith, length_usual n, s.1)))

  pub head_done : 2 * n ≤ y → Holds n R old (exchanged (cell n R old) k p) t
  head_done l = holds_as (trading_end (cell n R old) k p nk np d r.inverse y (letters l)) h.held
