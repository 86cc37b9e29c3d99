-- What `normal` says, on plain values: what is refused, and what is judged where nothing is.
--   refused, judged : the outcomes; room_there : there is room where it is to be judged
--   normal_refusal_first : the computed refusal is the first cause; normal_refusal_none : it is none exactly if no cause applies
-- Assumes nothing.
use mathlib.Core.Path.{◌≡◌, refl, sym, ◌∙◌, ap, subst}
use mathlib.Core.Logic.{⊎_elim, ◌↔◌}
use mathlib.Core.Bool.{Bool}
use mathlib.Core.Option.{Option, none, some}
use mathlib.Core.List.{List}
use Prim.Native.Nat.{ℕ, ◌*◌, ◌≤◌}
use native.Mathlib.Omega.{arith}
use lib.ListN.{length}
use Rattle.std.specs.Prelude.{⊤}
use Rattle.std.specs.declared.result.Result.{Result}
use Rattle.std.specs.declared.result.Result.TheVariants.{Ok, Err}
use Rattle.theory.specs.Letters.{usual}
use Rattle.theory.specs.Refusals.{Refusal as FirstCause, turn, First, Only, or_else}
use Rattle.theory.specs.TableRefusals.{Cause8, cell_refusal}
use Rattle.theory.specs.Tables.{absent, cell}
use Rattle.theory.specs.Basis.{is_normal}
use Rattle.theory.proofs.TableRefusalLaws.{Decides, decided_first, decided_none, join, alphabet_decides, lent_decides, short_decides, cells_decide, points_small}
use Rattle.cells.specs.Filled.{filled}
use Rattle.refusals.specs.Given.{unless}
use Rattle.refusals.specs.declared.Refusal.{Refusal}
use Rattle.refusals.proofs.UnlessLaws.{unless_err}
use Rattle.bases.specs.Bases.{early_refusal}
use Rattle.bases.proofs.AnswerLaws.{else_nothing, early_fine, early_none}
use Rattle.normals.specs.Normals.{NormalCause, normal_refusal, work_for, NormalOutcome}

module _ (n N : ℕ) (t work : List ℕ) where
  -- the answer and the cells of a refusal known
  told : (o : Option FirstCause) {r : Result Bool Refusal} {after : List ℕ} → normal_refusal n N t (length work) ≡ o
      → r ≡ unless o (is_normal (cell n N t) N (usual n)) → after ≡ work_for N work o → NormalOutcome n N t work r after
  told o e a b =
      record {
        answer = a ∙ sym (ap (λ o. unless o (is_normal (cell n N t) N (usual n))) e);
        cells = b ∙ sym (ap (work_for N work) e);
      }

  pub refused : {r : Refusal} → Err r ≡ unless (early_refusal n N t (length work) none) (tt {0}) → NormalOutcome n N t work (Err r) work
  unfolding normal_refusal
  refused e =
      let a = unless_err (early_refusal n N t (length work) none) (tt {0}) e in told (some a.0) a.1 (ap Err a.2) refl

  module _ {u : ⊤} (fine : Ok u ≡ unless (early_refusal n N t (length work) none) (tt {0})) where
    pub room_there : 4 * N ≤ length work
    room_there = (early_fine n N t (length work) (early_none n N t (length work) fine)).1

    pub judged : {b : Bool} {after : List ℕ} → b ≡ is_normal (cell n N t) N (usual n) → after ≡ filled (4 * N) 0 work
        → NormalOutcome n N t work (Ok b) after
    unfolding normal_refusal
    judged e d = told none (early_none n N t (length work) fine) (ap Ok e) d

-- ── The first cause ──

module _ (n N : ℕ) (t : List ℕ) (room : ℕ) where
  cells_last : N ≤ absent → Decides (Only 8 (Cause8 n N t)) (or_else (cell_refusal n N t) none)
  cells_last h = subst (Decides (Only 8 (Cause8 n N t))) (sym (else_nothing (cell_refusal n N t))) (cells_decide n N t h)

  normal_decides : Decides (NormalCause n N t room) (normal_refusal n N t room)
  unfolding normal_refusal early_refusal
  normal_decides =
      join (λ k p l q a b. ⊎_elim (λ x. omega (arith, ap turn a.0, ap turn x.0))
      (⊎_elim (λ x. omega (arith, ap turn a.0, ap turn x.0)) (λ x. omega (arith, ap turn a.0, ap turn x.0))) b)
      (alphabet_decides n)
      (λ _. join (λ k p l q a b. ⊎_elim (λ x. omega (arith, ap turn a.0, ap turn x.0)) (λ x. omega (arith, ap turn a.0, ap turn x.0)) b)
      (lent_decides n N (length t))
      (λ clear. join (λ k p l q a b. omega (arith, ap turn a.0, ap turn b.0))
      (short_decides (4 * N) room)
      (λ _. cells_last (points_small n N (length t) clear))))

  -- a table is refused by a number at a place exactly if that is the first cause that applies
  pub normal_refusal_first : (k p : ℕ)
      → (normal_refusal n N t room ≡ some (record { number = k; place = p })) ↔ First (NormalCause n N t room) k p
  normal_refusal_first = decided_first normal_decides

  pub normal_refusal_none : (normal_refusal n N t room ≡ none) ↔ ((k p : ℕ) → NormalCause n N t room k p → ⊥)
  normal_refusal_none = decided_none normal_decides
