-- Ways home (000, lemmas 3.27 and 3.28): in a core graph every reduced word that reads from the base begins a reduced loop.
--   StartsNot f w  <-> w does not start with the letter f
--   Homeward E b   <-> from each point that a word reaches from b there is a reduced way back to b that does not start with f, for each f
--   onward          : a reduced word that reads from b begins a reduced loop at b
--   same_words      : of two graphs, where loops of the first are loops of the second, words of the first are words of the second
-- Assumes nothing.
use mathlib.Core.Path.{◌≡◌}
use mathlib.Core.List.{List, [], ◌∷◌, ◌++◌}
use Prim.Native.Nat.{ℕ}
use borrow.Author.Tests.{ne_eqb}
use Rattle.theory.specs.Words.{inv, Reduced}
use Rattle.theory.specs.Tables.{Reads}
use Rattle.theory.proofs.ReadLaws.{Steps, reads_append, reads_split}

abbrev pub StartsNot : ℕ → List ℕ → Type 0
StartsNot f [] = Unit {0}
StartsNot f (y ∷ w) = y ≡ f → ⊥

-- the last letter of y followed by w
abbrev pub last_from : ℕ → List ℕ → ℕ
last_from y [] = y
last_from y (x ∷ w) = last_from x w

-- two reduced words join to a reduced word where the second does not start with the inverse of the first's last letter
pub reduced_join : (y : ℕ) (w v : List ℕ) → Reduced (y ∷ w) → Reduced v → StartsNot (inv (last_from y w)) v → Reduced (y ∷ (w ++ v))
reduced_join y [] [] h k s = tt
reduced_join y [] (z ∷ v) h k s = (ne_eqb z (inv y) s, k)
reduced_join y (x ∷ w) v h k s = (h.0, reduced_join x w v h.1 k s)

pub record Home (E : Steps) (b p f : ℕ) : Type 0 where
  pub way : List ℕ
  pub reads : Reads E p way b
  pub reduces : Reduced way
  pub starts : StartsNot f way

abbrev pub Homeward : Steps → ℕ → Type 0
Homeward E b = (p f : ℕ) (u : List ℕ) → Reads E b u p → Home E b p f

module _ {E : Steps} {b : ℕ} (H : Homeward E b) where
  pub onward : (w : List ℕ) (p : ℕ) → Reduced w → Reads E b w p → (v : List ℕ) × Reduced (w ++ v) × Reads E p v b
  onward [] p h r = let m = H p 0 [] r in (m.way, m.reduces, m.reads)
  onward (y ∷ w) p h r =
      let m = H p (inv (last_from y w)) (y ∷ w) r in
      (m.way, reduced_join y w m.way h m.reduces m.starts, m.reads)

  pub same_words : (F : Steps) (d : ℕ) → ((r : List ℕ) → Reduced r → Reads E b r b → Reads F d r d) → (w : List ℕ) (p : ℕ) → Reduced w → Reads E b w p → (z : ℕ) × Reads F d w z
  same_words F d f w p h r =
      let o = onward w p h r in
      let s = reads_split F d w o.0 d (f (w ++ o.0) o.1 (reads_append E b w p o.0 b r o.2)) in
      (s.0, s.1)
