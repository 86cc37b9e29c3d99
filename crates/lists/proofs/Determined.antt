-- The public contracts of this crate fix their outcome.
--   shorter_determined : two slices that `shorter` may hand back point to the same place and have the same bytes
-- `scan`, `letters_in`, `count`, `next_start` and `which_of` are equations. A reference's ghost name is nothing that a program can see.
-- Assumes nothing.
use mathlib.Core.Path.{◌≡◌, sym, ◌∙◌, ap}
use mathlib.Core.List.{List}
use Prim.Native.Nat.{ℕ}
use denote.Ref.{Bor}
use Rattle.lists.specs.Shorter.{which_of, Hands, HandedBack}
use Rattle.lists.specs.declared.Which.{Which}
use Rattle.lists.specs.declared.Which.TheVariants.{First, Second, Neither}

same : (w : Which) (a b r s : Bor (List ℕ)) → Hands w a b r → Hands w a b s → (r.ref_ptr ≡ s.ref_ptr) × (r.now ≡ s.now)
same First a b r s h k = (ap (λ x. x.ref_ptr) (h ∙ sym k), ap (λ x. x.now) (h ∙ sym k))
same Second a b r s h k = (ap (λ x. x.ref_ptr) (h ∙ sym k), ap (λ x. x.now) (h ∙ sym k))
same Neither a b r s h k = (h.0 ∙ sym k.0, h.1 ∙ sym k.1)

pub shorter_determined : (n : ℕ) (a b r s : Bor (List ℕ)) → HandedBack n a b r → HandedBack n a b s → (r.ref_ptr ≡ s.ref_ptr) × (r.now ≡ s.now)
shorter_determined n a b r s h k = same (which_of n a.now b.now) a b r s h k
