-- The turns by which two names are exchanged (`specs/Cells`, `traded_at`): each letter once, and then the closed form stands.
--   trading_start : before the first turn nothing is changed
--   trading_turn  : one turn
--   trading_end   : after a turn for each letter that has cells the names are exchanged
-- The four stores of a turn hit different cells, as the names differ and by the inverse law. Assumes nothing.
use mathlib.Core.Path.{◌≡◌, refl, sym, ◌∙◌, ap, subst₂}
use mathlib.Core.Logic.{◌⊎◌, inl, inr, ⊎_elim, by_cases}
use Prim.Native.Nat.{ℕ, suc, ◌<◌, ◌≤◌}
use native.Mathlib.Decide.{ℕ_discrete, dec_lt}
use native.Mathlib.Omega.{arith}
use borrow.Author.Tests.{eq-eqb, ne_eqb, lt-ltb, le-ltb}
use Rattle.theory.specs.Words.{inv}
use Rattle.theory.specs.Tables.{absent, Cells, Leads}
use Rattle.theory.proofs.GraphLaws.{Turns}
use Rattle.engine.specs.Cells.{put, transposed, exchanged, at_ends, trading, mended, traded_by, traded_at}
use Rattle.engine.proofs.CellLaws.{inv_apart, inv_twice, put_same, put_other}
use Rattle.engine.proofs.ExchangeLaws.{
  transposed_first,
  transposed_second,
  transposed_other,
  transposed_absent,
  exchanged_other,
}

-- ── Mending a far end ──

module _ (c : Cells) (k p q y x : ℕ) where
  -- a point other than k and p is mended
  mended_hit : (q ≡ absent → ⊥) → (q ≡ k → ⊥) → (q ≡ p → ⊥) → mended c k p q y x q (inv y) ≡ x
  unfolding mended
  mended_hit n a b = rw (ne_eqb q absent n, ne_eqb q k a, ne_eqb q p b) (put_same c q (inv y) x)

  -- every other cell is kept
  mended_miss : (u z : ℕ) → ((u ≡ q) → (z ≡ inv y) → (q ≡ absent → ⊥) → (q ≡ k → ⊥) → (q ≡ p → ⊥) → ⊥)
      → mended c k p q y x u z ≡ c u z
  unfolding mended
  mended_miss u z m =
      by_cases (ℕ_discrete q absent) (λ e. rw (eq-eqb q absent e))
      (λ n. by_cases (ℕ_discrete q k) (λ e. rw (ne_eqb q absent n, eq-eqb q k e))
      (λ d. by_cases (ℕ_discrete q p) (λ e. rw (ne_eqb q absent n, ne_eqb q k d, eq-eqb q p e))
      (λ e. rw (ne_eqb q absent n, ne_eqb q k d, ne_eqb q p e) (put_other c q (inv y) x u z (λ a b. m a b n d e)))))

-- ── The letter by which a cell is handled ──

module _ (k p : ℕ) where
  ends_first : (v y : ℕ) → v ≡ k → at_ends k p v y ≡ y
  ends_first v y e = rw (eq-eqb v k e)

  ends_second : (v y : ℕ) → v ≡ p → at_ends k p v y ≡ y
  ends_second v y e =
      by_cases (ℕ_discrete v k) (λ d. ends_first v y d) (λ d. rw (ne_eqb v k d, eq-eqb v p e))

  ends_other : (v y : ℕ) → (v ≡ k → ⊥) → (v ≡ p → ⊥) → at_ends k p v y ≡ inv y
  ends_other v y a b = rw (ne_eqb v k a, ne_eqb v p b)

module _ (c : Cells) (k p : ℕ) where
  trading_done : (i v y : ℕ) → at_ends k p v y < i → trading c k p i v y ≡ exchanged c k p v y
  unfolding trading
  trading_done i v y h = rw (lt-ltb (at_ends k p v y) i h)

  trading_left : (i v y : ℕ) → i ≤ at_ends k p v y → trading c k p i v y ≡ c v y
  unfolding trading
  trading_left i v y h = rw (le-ltb (at_ends k p v y) i h)

  -- before the first turn nothing is changed
  pub trading_start : (v y : ℕ) → trading c k p 0 v y ≡ c v y
  trading_start v y = trading_left 0 v y (omega arith)

  -- a turn of another letter
  trading_skip : (i v y : ℕ) → (at_ends k p v y ≡ i → ⊥) → trading c k p i v y ≡ trading c k p (suc i) v y
  trading_skip i v y n =
      by_cases (dec_lt (at_ends k p v y) i)
      (λ h. trading_done i v y h ∙ sym (trading_done (suc i) v y (omega arith)))
      (λ h. trading_left i v y (omega arith) ∙ sym (trading_left (suc i) v y (omega arith)))

module _ (c : Cells) (k p : ℕ) (nk : k ≡ absent → ⊥) (np : p ≡ absent → ⊥) (d : k ≡ p → ⊥) (turn : Turns (Leads c)) where
  -- a cell that names k is the far end of k's edge
  names_first : (v z : ℕ) → c v z ≡ k → Leads c k (inv z) v
  names_first v z e = turn v z k (e, nk)

  names_second : (v z : ℕ) → c v z ≡ p → Leads c p (inv z) v
  names_second v z e = turn v z p (e, np)

  module _ (e : Cells) (i : ℕ) where
    -- the rows k and p trade their cells of one letter
    traded_first : (a b : ℕ) → traded_by e k p i a b k i ≡ transposed k p b
    unfolding traded_by
    traded_first a b =
        mended_miss (mended (put (put e k i (transposed k p b)) p i (transposed k p a)) k p a i p) k p b i k k i
        (λ h z n m o. inv_apart i (sym z))
        ∙ mended_miss (put (put e k i (transposed k p b)) p i (transposed k p a)) k p a i p k i (λ h z n m o. inv_apart i (sym z))
        ∙ put_other (put e k i (transposed k p b)) p i (transposed k p a) k i (λ h z. d h)
        ∙ put_same e k i (transposed k p b)

    traded_second : (a b : ℕ) → traded_by e k p i a b p i ≡ transposed k p a
    unfolding traded_by
    traded_second a b =
        mended_miss (mended (put (put e k i (transposed k p b)) p i (transposed k p a)) k p a i p) k p b i k p i
        (λ h z n m o. inv_apart i (sym z))
        ∙ mended_miss (put (put e k i (transposed k p b)) p i (transposed k p a)) k p a i p p i (λ h z n m o. inv_apart i (sym z))
        ∙ put_same (put e k i (transposed k p b)) p i (transposed k p a)

    -- cells that are none of the four stay
    traded_miss : (a b v z : ℕ) → ((v ≡ k) ⊎ (v ≡ p) → z ≡ i → ⊥)
        → ((v ≡ k → ⊥) → (v ≡ p → ⊥) → z ≡ inv i → (v ≡ absent → ⊥) → (v ≡ a) ⊎ (v ≡ b) → ⊥)
        → traded_by e k p i a b v z ≡ e v z
    unfolding traded_by
    traded_miss a b v z f g =
        mended_miss (mended (put (put e k i (transposed k p b)) p i (transposed k p a)) k p a i p) k p b i k v z
        (λ h q n m o. g (λ r. m (sym h ∙ r)) (λ r. o (sym h ∙ r)) q (λ r. n (sym h ∙ r)) (inr h))
        ∙ mended_miss (put (put e k i (transposed k p b)) p i (transposed k p a)) k p a i p v z
        (λ h q n m o. g (λ r. m (sym h ∙ r)) (λ r. o (sym h ∙ r)) q (λ r. n (sym h ∙ r)) (inl h))
        ∙ put_other (put e k i (transposed k p b)) p i (transposed k p a) v z (λ h q. f (inr h) q)
        ∙ put_other e k i (transposed k p b) v z (λ h q. f (inl h) q)

    -- the far ends are mended
    traded_far_second : (a b v : ℕ) → v ≡ b → (v ≡ absent → ⊥) → (v ≡ k → ⊥) → (v ≡ p → ⊥)
        → traded_by e k p i a b v (inv i) ≡ k
    unfolding traded_by
    traded_far_second a b v q n f g =
        rw q
        (mended_hit (mended (put (put e k i (transposed k p b)) p i (transposed k p a)) k p a i p) k p b i k
        (λ r. n (q ∙ r)) (λ r. f (q ∙ r)) (λ r. g (q ∙ r)))

    traded_far_first : (a b v : ℕ) → v ≡ a → (v ≡ b → ⊥) → (v ≡ absent → ⊥) → (v ≡ k → ⊥) → (v ≡ p → ⊥)
        → traded_by e k p i a b v (inv i) ≡ p
    unfolding traded_by
    traded_far_first a b v q o n f g =
        mended_miss (mended (put (put e k i (transposed k p b)) p i (transposed k p a)) k p a i p) k p b i k v (inv i)
        (λ h r s t u. o h)
        ∙ rw q
        (mended_hit (put (put e k i (transposed k p b)) p i (transposed k p a)) k p a i p
        (λ r. n (q ∙ r)) (λ r. f (q ∙ r)) (λ r. g (q ∙ r)))

  -- what a turn is to give at a cell
  abbrev Given : ℕ → ℕ → ℕ → Type 0
  Given i v z = traded_by (trading c k p i) k p i (c k i) (c p i) v z ≡ trading c k p (suc i) v z

  -- the turn at the cells of its letter in rows k and p
  turn_first : (i : ℕ) → Given i k i
  unfolding exchanged
  turn_first i =
      traded_first (trading c k p i) i (c k i) (c p i)
      ∙ sym (trading_done c k p (suc i) k i (omega (arith, ends_first k p k i refl))
      ∙ ap (λ u. transposed k p (c u i)) (transposed_first k p))

  turn_second : (i : ℕ) → Given i p i
  unfolding exchanged
  turn_second i =
      traded_second (trading c k p i) i (c k i) (c p i)
      ∙ sym (trading_done c k p (suc i) p i (omega (arith, ends_second k p p i refl))
      ∙ ap (λ u. transposed k p (c u i)) (transposed_second k p))

  -- the turn at a cell of row k or p
  turn_ends : (i v z : ℕ) → (v ≡ k) ⊎ (v ≡ p) → Given i v z
  turn_ends i v z s =
      by_cases (ℕ_discrete z i)
      (λ q. ⊎_elim (λ h. subst₂ (Given i) (sym h) (sym q) (turn_first i)) (λ h. subst₂ (Given i) (sym h) (sym q) (turn_second i)) s)
      (λ q. traded_miss (trading c k p i) i (c k i) (c p i) v z (λ t r. q r) (λ f g r t u. absurd (⊎_elim f g s))
      ∙ trading_skip c k p i v z (λ r. q (sym (⊎_elim (ends_first k p v z) (ends_second k p v z) s) ∙ r)))

  -- the turn at a cell of another row
  turn_other : (i v z : ℕ) → (v ≡ k → ⊥) → (v ≡ p → ⊥) → Given i v z
  unfolding exchanged
  turn_other i v z f g =
      by_cases (ℕ_discrete z (inv i)) (λ q. rw q far)
      (λ q. traded_miss (trading c k p i) i (c k i) (c p i) v z (λ t r. ⊎_elim f g t) (λ a b r t u. q r)
      ∙ trading_skip c k p i v z (λ r. q (sym (inv_twice z) ∙ ap inv (sym (ends_other k p v z f g) ∙ r))))
    where
      own : at_ends k p v (inv i) ≡ i
      own = ends_other k p v (inv i) f g ∙ inv_twice i

      moved : trading c k p (suc i) v (inv i) ≡ transposed k p (c v (inv i))
      moved =
          trading_done c k p (suc i) v (inv i) (omega (arith, own))
          ∙ ap (λ u. transposed k p (c u (inv i))) (transposed_other k p v f g)

      end : (q : ℕ) → Leads c q (inv (inv i)) v → (v ≡ c q i) × (v ≡ absent → ⊥)
      end q l = (sym l.0 ∙ ap (c q) (inv_twice i), l.1)

      apart : c v (inv i) ≡ k → v ≡ c p i → (v ≡ absent → ⊥) → ⊥
      apart e h n = d (sym e ∙ (turn p i v (sym h, n)).0)

      far : Given i v (inv i)
      far =
          by_cases (ℕ_discrete (c v (inv i)) k)
          (λ e. let h = end k (names_first v (inv i) e) in
          traded_far_first (trading c k p i) i (c k i) (c p i) v h.0 (λ r. apart e r h.1) h.1 f g
          ∙ sym (moved ∙ ap (transposed k p) e ∙ transposed_first k p))
          (λ n. by_cases (ℕ_discrete (c v (inv i)) p)
          (λ e. let h = end p (names_second v (inv i) e) in
          traded_far_second (trading c k p i) i (c k i) (c p i) v h.0 h.1 f g
          ∙ sym (moved ∙ ap (transposed k p) e ∙ transposed_second k p))
          (λ m. traded_miss (trading c k p i) i (c k i) (c p i) v (inv i) (λ t r. ⊎_elim f g t)
          (λ a b r t s. ⊎_elim (λ h. n (turn k i v (sym h, t)).0) (λ h. m (turn p i v (sym h, t)).0) s)
          ∙ trading_left c k p i v (inv i) (omega (arith, own))
          ∙ sym (moved ∙ transposed_other k p (c v (inv i)) n m)))

  -- one turn: the rows k and p trade their cells of one letter, and the far ends are mended
  pub trading_turn : (i v z : ℕ) → traded_at (trading c k p i) k p i v z ≡ trading c k p (suc i) v z
  trading_turn i v z =
      ap (λ a. traded_by (trading c k p i) k p i a (trading c k p i p i) v z)
      (trading_left c k p i k i (omega (arith, ends_first k p k i refl)))
      ∙ ap (λ b. traded_by (trading c k p i) k p i (c k i) b v z)
      (trading_left c k p i p i (omega (arith, ends_second k p p i refl)))
      ∙ by_cases (ℕ_discrete v k) (λ e. turn_ends i v z (inl e))
      (λ e. by_cases (ℕ_discrete v p) (λ o. turn_ends i v z (inr o)) (λ o. turn_other i v z e o))

  -- where only letters below w have cells, after a turn for each the names are exchanged
  pub trading_end : (w : ℕ) → ((v y : ℕ) → (c v y ≡ absent → ⊥) → y < w) → (v y : ℕ)
      → trading c k p w v y ≡ exchanged c k p v y
  unfolding exchanged
  trading_end w bound v y =
      by_cases (dec_lt (at_ends k p v y) w) (λ h. trading_done c k p w v y h)
      (λ h. trading_left c k p w v y (omega arith) ∙ sym (same (omega arith)))
    where
      none : (u z : ℕ) → w ≤ z → c u z ≡ absent
      none u z h = by_cases (ℕ_discrete (c u z) absent) (λ e. e) (λ n. absurd (omega (arith, bound u z n)))

      ends : w ≤ y → transposed k p (c (transposed k p v) y) ≡ c v y
      ends h = ap (transposed k p) (none (transposed k p v) y h) ∙ transposed_absent c k p nk np ∙ sym (none v y h)

      same : w ≤ at_ends k p v y → transposed k p (c (transposed k p v) y) ≡ c v y
      same h =
          by_cases (ℕ_discrete v k) (λ e. ends (omega (arith, ends_first k p v y e)))
          (λ e. by_cases (ℕ_discrete v p) (λ o. ends (omega (arith, ends_second k p v y o)))
          (λ o. let q : w ≤ inv y = omega (arith, ends_other k p v y e o) in
          exchanged_other c k p v y e o
          (λ r. let l = names_first v y r in l.1 (sym l.0 ∙ none k (inv y) q))
          (λ r. let l = names_second v y r in l.1 (sym l.0 ∙ none p (inv y) q))))
