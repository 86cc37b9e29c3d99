-- The shorter of two lists (document 01, 'Other operations'), cited by `shorter`'s contract.
--   is_good n list      == no refusal meets the list; where n is not 1 to 26 none is good
--   which_of n a b      == which of two lists is handed back, from their bytes
--   HandedBack n a b r <-> r is the caller's own slice a, or b, or the empty start of a: it points where that list starts
-- A slice is its reference: where it points, and its bytes. Assumes nothing.
use Rattle.std.specs.Prelude.{◌≡◌, Bool, true, false, cond, List, [], ℕ, leb}
use Rattle.std.proofs.Math.Option.{Option, none, some}
use Rattle.std.specs.Borrow.{Bor}
use Rattle.theory.specs.Letters.{letters_in}
use Rattle.theory.specs.Refusals.{Refusal, text_refusal}
use Rattle.lists.specs.declared.Which.{Which}
use Rattle.lists.specs.declared.Which.TheVariants.{First, Second, Neither}

abbrev pub is_none : Option Refusal → Bool
is_none none = true
is_none (some r) = false

unfoldable pub is_good : ℕ → List ℕ → Bool
is_good n list = is_none (text_refusal n true list)

-- the one with fewer letters, the first on a tie; a good one rather than a bad one
unfoldable pub which_of : ℕ → List ℕ → List ℕ → Which
which_of n a b =
    cond (is_good n a)
    (cond (is_good n b) (cond (leb (letters_in a) (letters_in b)) First Second) First)
    (cond (is_good n b) Second Neither)

-- the reference that stands for the answer
abbrev pub Hands : Which → Bor (List ℕ) → Bor (List ℕ) → Bor (List ℕ) → Type 0
Hands First a b r = r ≡ a
Hands Second a b r = r ≡ b
Hands Neither a b r = (r.ref_ptr ≡ a.ref_ptr) × (r.now ≡ [])

abbrev pub HandedBack : ℕ → Bor (List ℕ) → Bor (List ℕ) → Bor (List ℕ) → Type 0
HandedBack n a b r = Hands (which_of n a.now b.now) a b r
