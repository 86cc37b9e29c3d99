-- What a lent and a sound table are, for laws that speak of n, N and t (`specs/Lent`, and the types `Lent` and `Sound`).
--   tested_lent, lent_alphabet, lent_size : a table is lent exactly if the tests of 1 and 6 pass
--   lent_told, lent_free   : so it is lent exactly if neither refuses
--   lent_lettered          : where n is an alphabet, 6 alone may refuse
--   product_small          : it has few cells
--   place_in, row_in       : a cell stands within them, and so does a row
--   IsSound, sound         : a lent table that is canonical; so is each value of `Sound`
--   sound_setting          : such a table has the paths of `PathLaws`
--   verdict_unless         : the verdict of an answer that may be a refusal
-- Assumes nothing.
use mathlib.Core.Path.{◌≡◌, refl}
use mathlib.Core.Bool.{true, not}
use mathlib.Core.Option.{Option, none, some}
use mathlib.Core.List.{List}
use Prim.Native.Nat.{ℕ, ◌+◌, ◌*◌, ◌≤◌, ◌<◌}
use native.Mathlib.Nat.{mul-le-mul_right}
use native.Mathlib.Omega.{arith}
use lib.ListN.{length}
use borrow.Author.Tests.{not-false}
use Rattle.theory.specs.Letters.{usual}
use Rattle.theory.specs.Refusals.{Refusal as FirstCause, is_alphabet, refused_if}
use Rattle.theory.specs.TableRefusals.{is_lent}
use Rattle.theory.specs.Tables.{cell}
use Rattle.theory.specs.Canonical.{Canonical}
use Rattle.theory.proofs.TableLaws.{row_below}
use Rattle.theory.proofs.RefusalLaws.{alphabet_in, in_alphabet}
use Rattle.theory.proofs.TableRefusalLaws.{else_none, unrefused, lent_in, in_lent}
use Rattle.theory.proofs.CanonicalLaws.{table_none_canonical}
use Rattle.theory.proofs.PathLaws.{Setting, usual_setting}
use Rattle.refusals.specs.Given.{unless}
use Rattle.tables.specs.Lent.{IsLent, lent_refusal, verdict}
use Rattle.tables.specs.declared.Sound.{Sound}

-- ── The tests ──

pub tested_lent : {n N : ℕ} {t : List ℕ} → is_alphabet n ≡ true → is_lent n N (length t) ≡ true → IsLent n N t
tested_lent {n} {N} {t} a l =
    let p = alphabet_in n a in
    let q = lent_in n N (length t) l in
    record { lettered = p.0; letters = p.1; based = q.0; points = q.1; cells = q.2 }

pub lent_told : (n N : ℕ) (t : List ℕ) → lent_refusal n N t ≡ none → IsLent n N t
lent_told n N t e =
    let p = else_none _ _ e in
    tested_lent (not-false _ (unrefused (not (is_alphabet n)) 1 0 p.0))
    (not-false _ (unrefused (not (is_lent n N (length t))) 6 0 p.1))

pub lent_lettered : (n N : ℕ) (t : List ℕ) → is_alphabet n ≡ true
    → lent_refusal n N t ≡ refused_if (not (is_lent n N (length t))) 6 0
lent_lettered n N t a = rw a

module _ {n N : ℕ} {t : List ℕ} (L : IsLent n N t) where
  pub lent_alphabet : is_alphabet n ≡ true
  lent_alphabet = in_alphabet n L.lettered L.letters

  pub lent_size : is_lent n N (length t) ≡ true
  lent_size = in_lent n N (length t) L.based L.points L.cells

  pub lent_free : lent_refusal n N t ≡ none
  lent_free = rw (lent_alphabet, lent_size)

  -- ── Sizes ──

  pub product_small : N * (2 * n) ≤ 54526004
  product_small = omega (arith, mul-le-mul_right (2 * n) L.points, L.letters)

  pub row_in : {v : ℕ} → v < N → v * (2 * n) + 2 * n ≤ length t
  row_in {v} hv = omega (arith, row_below N (2 * n) v hv, L.cells)

  pub place_in : {v y : ℕ} → v < N → y < 2 * n → v * (2 * n) + y < length t
  place_in {v} {y} hv hy = omega (arith, hy, row_in hv)

-- ── Sound tables ──

pub record IsSound (n N : ℕ) (t : List ℕ) : Type 0 where
  pub lent : IsLent n N t
  pub canonical : Canonical N (usual n) (cell n N t)

pub sound_setting : {n N : ℕ} {t : List ℕ} → IsSound n N t → Setting (cell n N t) N (usual n)
sound_setting {n} {N} {t} S = usual_setting n N t S.canonical (omega (arith, S.lent.based))

pub sound : (s : Sound) → IsSound s.n s.points s.cells.now
sound s = record { lent = s.lent; canonical = table_none_canonical s.n s.points s.cells.now s.lent.lettered s.sound }

-- ── Verdicts ──

pub verdict_unless : {A : Type 0} (o : Option FirstCause) (a : A) → verdict (unless o a) ≡ unless o (tt {0})
verdict_unless none a = refl
verdict_unless (some r) a = refl
