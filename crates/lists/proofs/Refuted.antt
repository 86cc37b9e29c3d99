-- Wrong programs that have no place in the code: for each an input on which its outcome does not conform.
--   first_always   : not the first list whatever the second is (aa against a)
--   nothing_always : not the empty start where a list is good (a against a)
--   refuse_all     : a scan does not refuse everything (the empty list)
--   refuse_nothing : nor nothing (n = 0)
-- Assumes nothing.
use mathlib.Core.Path.{◌≡◌, refl, sym, ◌∙◌, ap, subst}
use mathlib.Core.Bool.{true}
use mathlib.Core.List.{List, [], ◌∷◌}
use Prim.Native.Nat.{ℕ}
use native.Mathlib.Omega.{arith}
use lib.ListN.{length}
use denote.Ref.{Bor}
use Rattle.theory.specs.Letters.{letter_bytes, place_in, letter_of, is_letter, letters_in}
use Rattle.theory.specs.Refusals.{is_alphabet, byte_refusal, bytes_refusal, is_unended, text_refusal}
use Rattle.std.specs.Prelude.{⊤}
use Rattle.std.specs.declared.result.Result.TheVariants.{Ok, Err}
use Rattle.refusals.specs.Given.{unless}
use Rattle.refusals.specs.declared.Refusal.{Refusal}
use Rattle.lists.specs.Shorter.{is_good, which_of, Hands, HandedBack}
use Rattle.lists.specs.declared.Which.TheVariants.{First, Second}

-- the list of the word aa, and of the word a
abbrev aa : List ℕ
aa = 97 ∷ 97 ∷ 10 ∷ []

abbrev a1 : List ℕ
a1 = 97 ∷ 10 ∷ []

pub first_always : (a b : Bor (List ℕ)) → a.now ≡ aa → b.now ≡ a1 → HandedBack 1 a b a → ⊥
first_always a b p q h = longer (sym p ∙ ap (λ r. r.now) second ∙ q)
  where
    which : which_of 1 a.now b.now ≡ Second
    which = rw (p, q) (unfold which_of is_good text_refusal is_alphabet bytes_refusal byte_refusal is_unended is_letter letter_of place_in letter_bytes letters_in in refl)

    second : a ≡ b
    second = subst (λ w. Hands w a b a) which h

    longer : aa ≡ a1 → ⊥
    longer e = let z : ◌≡◌ {A = ℕ} 3 2 = ap length e in omega arith

pub nothing_always : (a b r : Bor (List ℕ)) → a.now ≡ a1 → b.now ≡ a1 → r.now ≡ [] → HandedBack 1 a b r → ⊥
nothing_always a b r p q e h = shorter (sym e ∙ ap (λ s. s.now) first ∙ p)
  where
    which : which_of 1 a.now b.now ≡ First
    which = rw (p, q) (unfold which_of is_good text_refusal is_alphabet bytes_refusal byte_refusal is_unended is_letter letter_of place_in letter_bytes letters_in in refl)

    first : r ≡ a
    first = subst (λ w. Hands w a b r) which h

    shorter : [] ≡ a1 → ⊥
    shorter f = let z : ◌≡◌ {A = ℕ} 0 2 = ap length f in omega arith

pub refuse_all : (r : Refusal) → Err r ≡ unless {A = ⊤} (text_refusal 2 true []) tt → ⊥
unfolding text_refusal is_alphabet bytes_refusal is_unended
refuse_all r e = let z : ◌≡◌ {A = ℕ} 0 1 = cc in omega arith

pub refuse_nothing : Ok tt ≡ unless {A = ⊤} (text_refusal 0 true []) tt → ⊥
unfolding text_refusal is_alphabet
refuse_nothing e = let z : ◌≡◌ {A = ℕ} 0 1 = cc in omega arith
