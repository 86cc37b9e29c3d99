-- The public contracts of this crate fix their outcome.
--   check_determined             : two answers that `check` may give are the same
--   lend_determined, checked_determined : so are two of `lend` and of `checked`
--   from_determined              : and two of `Lent::from`
--   handed_on_determined         : and of any function that hands a sound table on, or refuses by one cause
-- `is_lent`, `cell_count`, `cell_at` and `walk` are equations. Assumes nothing.
use mathlib.Core.Path.{◌≡◌, sym, ◌∙◌, ap}
use mathlib.Core.HLevel.{is_prop→PathP}
use mathlib.Core.Option.{Option, none}
use mathlib.Core.List.{List}
use Prim.Native.Nat.{ℕ}
use native.Mathlib.Omega.{arith}
use Rattle.std.specs.Prelude.{IfOk}
use Rattle.std.specs.Borrow.{Bor}
use Rattle.std.specs.Coded.{le_prop}
use Rattle.std.specs.declared.result.Result.{Result}
use Rattle.std.specs.declared.result.Result.TheVariants.{Ok, Err}
use Rattle.std.proofs.Props.{props}
use Rattle.theory.specs.Letters.{usual}
use Rattle.theory.specs.Refusals.{Refusal as FirstCause}
use Rattle.theory.specs.TableRefusals.{cell_refusal}
use Rattle.theory.specs.Tables.{cell}
use Rattle.theory.specs.Canonical.{faulty_cell}
use Rattle.refusals.specs.declared.Refusal.{Refusal}
use Rattle.refusals.specs.Given.{unless}
use Rattle.tables.specs.Lent.{IsLent, lent_refusal, verdict}
use Rattle.tables.specs.Checks.{CheckOutcome}
use Rattle.tables.specs.declared.Figures.{Figures}
use Rattle.tables.specs.declared.Table.{Table}
use Rattle.tables.specs.declared.Lent.{Lent}
use Rattle.tables.specs.declared.Sound.{Sound}

pub check_determined : (n N : ℕ) (t : List ℕ) (r s : Result Figures Refusal) → CheckOutcome n N t r → CheckOutcome n N t s → r ≡ s
check_determined n N t r s h k = h ∙ sym k

-- ── Lent and sound tables are what they hold ──

IsLent-prop : (n N : ℕ) (t : List ℕ) → IsProp (IsLent n N t)
IsLent-prop n N t p q = λ i. record {
  lettered = le_prop p.lettered q.lettered i;
  letters = le_prop p.letters q.letters i;
  based = le_prop p.based q.based i;
  points = le_prop p.points q.points i;
  cells = le_prop p.cells q.cells i;
}

lent_same : (a b : Lent) → (a.n ≡ b.n) × (a.points ≡ b.points) × (a.cells ≡ b.cells) → a ≡ b
lent_same a b e = λ i. record {
  n = e.0 i;
  points = e.1 i;
  cells = e.2 i;
  lent = is_prop→PathP (λ j. IsLent (e.0 j) (e.1 j) (e.2 j).now) (λ j. IsLent-prop (e.0 j) (e.1 j) (e.2 j).now) a.lent b.lent i;
}

sound_same : (a b : Sound) → (a.n ≡ b.n) × (a.points ≡ b.points) × (a.cells ≡ b.cells) → a ≡ b
sound_same a b e = λ i. record {
  n = e.0 i;
  points = e.1 i;
  cells = e.2 i;
  lent = is_prop→PathP (λ j. IsLent (e.0 j) (e.1 j) (e.2 j).now) (λ j. IsLent-prop (e.0 j) (e.1 j) (e.2 j).now) a.lent b.lent i;
  sound = is_prop→PathP (λ j. faulty_cell (e.1 j) (usual (e.0 j)) (cell (e.0 j) (e.1 j) (e.2 j).now) ≡ none) (λ j. hlevel props) a.sound b.sound i;
}

pub from_determined : (s : Sound) (a b : Lent) → (a.n ≡ s.n) × (a.points ≡ s.points) × (a.cells ≡ s.cells)
    → (b.n ≡ s.n) × (b.points ≡ s.points) × (b.cells ≡ s.cells) → a ≡ b
from_determined s a b h k = lent_same a b (h.0 ∙ sym k.0, h.1 ∙ sym k.1, h.2 ∙ sym k.2)

-- what the contracts of `lend` and `checked` say
abbrev Lends : Table → Result Lent Refusal → Type 0
Lends t r =
    (verdict r ≡ unless (lent_refusal t.n t.points t.cells.now) (tt {0}))
    × IfOk r (λ l. (l.n ≡ t.n) × (l.points ≡ t.points) × (l.cells ≡ t.cells))

abbrev Checks : Lent → Result Sound Refusal → Type 0
Checks t r =
    (verdict r ≡ unless (cell_refusal t.n t.points t.cells.now) (tt {0}))
    × IfOk r (λ s. (s.n ≡ t.n) × (s.points ≡ t.points) × (s.cells ≡ t.cells))

pub lend_determined : (t : Table) (r s : Result Lent Refusal) → Lends t r → Lends t s → r ≡ s
lend_determined t (Ok a) (Ok b) h k = ap Ok (lent_same a b (h.1.0 ∙ sym k.1.0, h.1.1 ∙ sym k.1.1, h.1.2 ∙ sym k.1.2))
lend_determined t (Ok a) (Err q) h k = absurd (let z : ◌≡◌ {A = ℕ} 0 1 = cc (h.0 ∙ sym k.0) in omega arith)
lend_determined t (Err p) (Ok b) h k = absurd (let z : ◌≡◌ {A = ℕ} 0 1 = cc (h.0 ∙ sym k.0) in omega arith)
lend_determined t (Err p) (Err q) h k = ap Err (cc (h.0 ∙ sym k.0))

-- what functions say that hand a table on as sound, or refuse by o: `checked`, and those of crates above
abbrev pub HandsOn : (n N : ℕ) (t : Bor (List ℕ)) → Option FirstCause → Result Sound Refusal → Type 0
HandsOn n N t o r = (verdict r ≡ unless o (tt {0})) × IfOk r (λ s. (s.n ≡ n) × (s.points ≡ N) × (s.cells ≡ t))

pub handed_on_determined : (n N : ℕ) (t : Bor (List ℕ)) (o : Option FirstCause) (r s : Result Sound Refusal)
    → HandsOn n N t o r → HandsOn n N t o s → r ≡ s
handed_on_determined n N t o (Ok a) (Ok b) h k = ap Ok (sound_same a b (h.1.0 ∙ sym k.1.0, h.1.1 ∙ sym k.1.1, h.1.2 ∙ sym k.1.2))
handed_on_determined n N t o (Ok a) (Err q) h k = absurd (let z : ◌≡◌ {A = ℕ} 0 1 = cc (h.0 ∙ sym k.0) in omega arith)
handed_on_determined n N t o (Err p) (Ok b) h k = absurd (let z : ◌≡◌ {A = ℕ} 0 1 = cc (h.0 ∙ sym k.0) in omega arith)
handed_on_determined n N t o (Err p) (Err q) h k = ap Err (cc (h.0 ∙ sym k.0))

pub checked_determined : (t : Lent) (r s : Result Sound Refusal) → Checks t r → Checks t s → r ≡ s
checked_determined t = handed_on_determined t.n t.points t.cells (cell_refusal t.n t.points t.cells.now)
