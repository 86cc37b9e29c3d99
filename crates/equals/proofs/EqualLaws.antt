-- The stages of `equal` on plain values: what is refused, in order, and the answer where nothing is.
--   fine : what holds of two tables where nothing is refused
-- Assumes nothing.
use mathlib.Core.Path.{◌≡◌, refl, ◌∙◌, ap}
use mathlib.Core.Bool.{Bool, true, false, not, ◌&&◌}
use mathlib.Core.Option.{Option, none}
use mathlib.Core.List.{List}
use Prim.Native.Nat.{ℕ, ◌*◌, ◌≤◌}
use native.Mathlib.Omega.{arith}
use lib.Dec.{eqb}
use lib.ListN.{length}
use borrow.Author.Tests.{eq-eqb, ne_eqb, eqb-true, not-false}
use Rattle.std.specs.Prelude.{⊤}
use Rattle.std.specs.declared.result.Result.{Result}
use Rattle.std.specs.declared.result.Result.TheVariants.{Ok, Err}
use Rattle.theory.specs.Letters.{usual}
use Rattle.theory.specs.Refusals.{Refusal as FirstCause, point_limit, is_alphabet, or_else, refused_if}
use Rattle.theory.specs.Tables.{cell}
use Rattle.theory.specs.Canonical.{Canonical, faulty_cell}
use Rattle.theory.specs.TableRefusals.{is_lent, at_cell, cell_refusal, equal_refusal}
use Rattle.theory.proofs.RefusalLaws.{and_true, alphabet_in}
use Rattle.theory.proofs.CanonicalLaws.{table_none_canonical}
use Rattle.theory.proofs.TableRefusalLaws.{else_none, unrefused, no_cell, lent_in}
use Rattle.refusals.specs.Given.{refusal_at, unless}
use Rattle.refusals.specs.declared.Cause.TheVariants.{Alphabet}
use Rattle.refusals.specs.declared.Refusal.{Refusal}
use Rattle.refusals.proofs.UnlessLaws.{unless_ok, ok_unless}
use Rattle.refusals.proofs.StageLaws.{err_any, err_first, ok_next, held}
use Rattle.tables.specs.Lent.{lent_refusal}
use Rattle.equals.specs.Equals.{is_same, equal_as}

-- two tests under one number refuse like one after the other
one_by_one : (a b : Bool) (k p : ℕ) (o : Option FirstCause)
    → or_else (refused_if (not (a && b)) k p) o ≡ or_else (refused_if (not a) k p) (or_else (refused_if (not b) k p) o)
one_by_one true b k p o = refl
one_by_one false b k p o = refl

-- ── Nothing is refused ──

pub record Fine (n N : ℕ) (t : List ℕ) (m M : ℕ) (s : List ℕ) : Type 0 where
  pub alphabet : (1 ≤ n) × (n ≤ 26)
  pub same : m ≡ n
  pub lent : (1 ≤ N) × (N ≤ point_limit) × (N * (2 * n) ≤ length t)
  pub other : (1 ≤ M) × (M ≤ point_limit) × (M * (2 * m) ≤ length s)
  pub canonical : Canonical N (usual n) (cell n N t)
  pub other_canonical : Canonical M (usual m) (cell m M s)

pub fine : (n N : ℕ) (t : List ℕ) (m M : ℕ) (s : List ℕ) → equal_refusal n N t m M s ≡ none → Fine n N t m M s
unfolding equal_refusal cell_refusal
fine n N t m M s e =
    record {
      alphabet = letters;
      same = equal;
      lent = lent_in n N (length t) lents.0;
      other = lent_in m M (length s) lents.1;
      canonical = table_none_canonical n N t letters.0 (no_cell (faulty_cell N (usual n) (cell n N t)) cells.0);
      other_canonical = table_none_canonical m M s (omega (arith, letters.0, equal)) (no_cell (faulty_cell M (usual m) (cell m M s)) cells.1);
    }
  where
    a : (refused_if (not (is_alphabet n && eqb m n)) 1 0 ≡ none) × (or_else (refused_if (not (is_lent n N (length t) && is_lent m M (length s))) 6 0) (or_else (at_cell (faulty_cell N (usual n) (cell n N t))) (at_cell (faulty_cell M (usual m) (cell m M s)))) ≡ none)
    a = else_none _ _ e

    b : (refused_if (not (is_lent n N (length t) && is_lent m M (length s))) 6 0 ≡ none) × (or_else (at_cell (faulty_cell N (usual n) (cell n N t))) (at_cell (faulty_cell M (usual m) (cell m M s))) ≡ none)
    b = else_none _ _ a.1

    cells : (at_cell (faulty_cell N (usual n) (cell n N t)) ≡ none) × (at_cell (faulty_cell M (usual m) (cell m M s)) ≡ none)
    cells = else_none _ _ b.1

    alphabets : (is_alphabet n ≡ true) × (eqb m n ≡ true)
    alphabets = and_true (is_alphabet n) (eqb m n) (not-false _ (unrefused (not (is_alphabet n && eqb m n)) 1 0 a.0))

    lents : (is_lent n N (length t) ≡ true) × (is_lent m M (length s) ≡ true)
    lents = and_true (is_lent n N (length t)) (is_lent m M (length s)) (not-false _ (unrefused (not (is_lent n N (length t) && is_lent m M (length s))) 6 0 b.0))

    letters : (1 ≤ n) × (n ≤ 26)
    letters = alphabet_in n alphabets.0

    equal : m ≡ n
    equal = eqb-true m n alphabets.1

module _ (n N : ℕ) (t : List ℕ) (m M : ℕ) (s : List ℕ) where
  module _ (clear : equal_refusal n N t m M s ≡ none) where
    -- the answer, by its two tests
    pub answered : Ok (is_same n N t M s) ≡ equal_as n N t m M s
    unfolding equal_as
    answered = ok_unless (equal_refusal n N t m M s) (is_same n N t M s) clear

  -- ── Refusals: the two alphabets, the two sizes, the cells of both ──

  abbrev by_cells : Option FirstCause
  by_cells = or_else (cell_refusal n N t) (cell_refusal m M s)

  abbrev answer : Bool
  answer = is_same n N t M s

  pub alphabet_refused : {r : Refusal} → Err r ≡ unless (refused_if (not (is_alphabet n)) 1 0) (tt {0}) → Err r ≡ equal_as n N t m M s
  unfolding equal_as equal_refusal
  alphabet_refused e =
      rw one_by_one (err_first (refused_if (not (is_alphabet n)) 1 0) (tt {0}) answer (or_else (refused_if (not (eqb m n)) 1 0) (or_else (refused_if (not (is_lent n N (length t) && is_lent m M (length s))) 6 0) by_cells)) e)

  module _ {a : ⊤} (good : Ok a ≡ unless (refused_if (not (is_alphabet n)) 1 0) (tt {0})) where
    lettered : is_alphabet n ≡ true
    lettered = held (is_alphabet n) 1 0 good

    pub other_refused : (m ≡ n → ⊥) → Err (refusal_at Alphabet 0) ≡ equal_as n N t m M s
    unfolding equal_as equal_refusal
    other_refused e = rw (lettered, ne_eqb m n e)

    -- both have one alphabet: sizes and cells decide
    module _ (one : m ≡ n) where
      by_stages : equal_as n N t m M s ≡ unless (or_else (lent_refusal n N t) (or_else (lent_refusal m M s) by_cells)) answer
      unfolding equal_as equal_refusal
      by_stages = rw (lettered, eq-eqb m n one, ap is_alphabet one ∙ lettered, one_by_one)

      pub first_refused : {r : Refusal} → Err r ≡ unless (lent_refusal n N t) (tt {0}) → Err r ≡ equal_as n N t m M s
      first_refused e = rw by_stages (err_first (lent_refusal n N t) (tt {0}) answer (or_else (lent_refusal m M s) by_cells) e)

      module _ {b : ⊤} (lent : Ok b ≡ unless (lent_refusal n N t) (tt {0})) where
        then_second : {x : Result Bool Refusal} → x ≡ unless (or_else (lent_refusal m M s) by_cells) answer → x ≡ equal_as n N t m M s
        then_second e = rw by_stages (ok_next (lent_refusal n N t) (tt {0}) answer (or_else (lent_refusal m M s) by_cells) lent e)

        pub second_refused : {r : Refusal} → Err r ≡ unless (lent_refusal m M s) (tt {0}) → Err r ≡ equal_as n N t m M s
        second_refused e = then_second (err_first (lent_refusal m M s) (tt {0}) answer by_cells e)

        -- both are lent: the cells decide
        module _ {d : ⊤} (other : Ok d ≡ unless (lent_refusal m M s) (tt {0})) where
          then_cells : {x : Result Bool Refusal} → x ≡ unless by_cells answer → x ≡ equal_as n N t m M s
          then_cells e = then_second (ok_next (lent_refusal m M s) (tt {0}) answer by_cells other e)

          pub cell_refused : {r : Refusal} → Err r ≡ unless (cell_refusal n N t) (tt {0}) → Err r ≡ equal_as n N t m M s
          cell_refused e = then_cells (err_first (cell_refusal n N t) (tt {0}) answer (cell_refusal m M s) e)

          module _ {f : ⊤} (sound : Ok f ≡ unless (cell_refusal n N t) (tt {0})) where
            then_other : {x : Result Bool Refusal} → x ≡ unless (cell_refusal m M s) answer → x ≡ equal_as n N t m M s
            then_other e = then_cells (ok_next (cell_refusal n N t) (tt {0}) answer (cell_refusal m M s) sound e)

            pub other_cell_refused : {r : Refusal} → Err r ≡ unless (cell_refusal m M s) (tt {0}) → Err r ≡ equal_as n N t m M s
            other_cell_refused e = then_other (err_any (cell_refusal m M s) (tt {0}) answer e)

            pub none_refused : {g : ⊤} → Ok g ≡ unless (cell_refusal m M s) (tt {0}) → Ok answer ≡ equal_as n N t m M s
            none_refused e = then_other (ok_unless (cell_refusal m M s) answer (unless_ok (cell_refusal m M s) (tt {0}) e).0)
