-- The stages of `basis` on plain values: what is refused, in order, and what is written where nothing is.
--   early_lent, early_room : a refusal at a stage, 1 or 6, or 7, is the answer; early_cells : behind them the cells decide
--   early_none, early_clear, early_fine : none of them applies, and what holds then
--   early_refused, late_refused, written : the three outcomes
--   basis_refusal_first : the computed refusal is the first cause; basis_refusal_none : it is none exactly if no cause applies
--   basis_numbered      : the causes are those of numbers 1 to 12
--   answered_first      : an answer that is a computed refusal is the refusal for a cause exactly if that is the first that applies
-- Assumes nothing.
use mathlib.Core.Path.{◌≡◌, refl, sym, ◌∙◌, ap, subst}
use mathlib.Core.Logic.{⊎_elim, ◌↔◌}
use mathlib.Core.Bool.{Bool, true, false, not}
use mathlib.Core.Option.{Option, none, some}
use mathlib.Core.List.{List, ◌++◌}
use Prim.Native.Nat.{ℕ, ◌+◌, ◌*◌, ◌≤◌, ◌<◌}
use native.Mathlib.Omega.{arith}
use Rattle.std.specs.Prelude.{⊤}
use Rattle.std.specs.declared.result.Result.{Result}
use Rattle.std.specs.declared.result.Result.TheVariants.{Ok, Err}
use lib.Dec.{eqb, ltb}
use lib.ListN.{length, drop, replicate}
use lib.Seq.{sets, sets-eq, drop-drop}
use borrow.Author.Tests.{lt-ltb, le-ltb, ltb-true, ltb-false}
use Rattle.theory.specs.Letters.{usual}
use Rattle.theory.specs.Refusals.{Refusal as FirstCause, turn, First, Cause1, Cause6Lent, CauseShort, is_alphabet, or_else, refused_if}
use Rattle.theory.specs.TableRefusals.{Cause8, is_lent, at_cell, cell_refusal}
use Rattle.theory.specs.Tables.{cell}
use Rattle.theory.specs.Canonical.{faulty_cell}
use Rattle.theory.specs.Basis.{scan}
use Rattle.theory.specs.Texts.{list_text}
use Rattle.theory.proofs.CanonicalLaws.{table_none_canonical}
use Rattle.theory.proofs.TableRefusalLaws.{
  Decides,
  decided_first,
  decided_none,
  join,
  only_if,
  else_none,
  unrefused,
  no_cell,
  alphabet_decides,
  lent_decides,
  short_decides,
  cells_decide,
  points_small,
}
use Rattle.cells.specs.Filled.{filled}
use Rattle.refusals.specs.Given.{number_of, refusal_at, given, unless, unless_short}
use Rattle.refusals.specs.declared.Cause.{Cause}
use Rattle.refusals.specs.declared.Cause.TheVariants.{Work, Output}
use Rattle.refusals.specs.declared.Refusal.{Refusal}
use Rattle.refusals.proofs.UnlessLaws.{unless_ok, unless_err, short_unless}
use Rattle.refusals.proofs.StageLaws.{err_first, ok_next}
use Rattle.refusals.proofs.NumberLaws.{Numbered, numbered_only, given_first, refusal_given}
use Rattle.tables.specs.Lent.{IsLent, lent_refusal}
use Rattle.tables.proofs.LentLaws.{IsSound, lent_free, lent_told}
use Rattle.lists.specs.declared.TextSize.{TextSize}
use Rattle.paths.specs.Paths.{PathsOutcome}
use Rattle.bases.specs.Words.{text_of, size_in}
use Rattle.bases.specs.Bases.{basis_text, BasisCause, early_refusal, basis_refusal, basis_size, work_for, out_for, BasisOutcome}
use Rattle.bases.proofs.SpotLaws.{basis_scan}

-- ── Refusals 1, 6, 7, 8 ──

or_else-assoc : (a b c : Option FirstCause) → or_else (or_else a b) c ≡ or_else a (or_else b c)
or_else-assoc none b c = refl
or_else-assoc (some r) b c = refl

three : (a b c d : Option FirstCause) → or_else (or_else a (or_else b c)) d ≡ or_else a (or_else b (or_else c d))
three a b c d = or_else-assoc a (or_else b c) d ∙ ap (or_else a) (or_else-assoc b c d)

-- behind the last cause there is none
pub else_nothing : (o : Option FirstCause) → or_else o none ≡ o
else_nothing none = refl
else_nothing (some r) = refl

module _ (n N : ℕ) (t : List ℕ) (room : ℕ) where
  abbrev by_room : Option FirstCause
  by_room = refused_if (ltb room (4 * N)) 7 (4 * N)

  -- the tests of a lent table, the room, the cells, and what comes behind them
  by_stages : (late : Option FirstCause) → early_refusal n N t room late ≡ or_else (lent_refusal n N t) (or_else by_room (or_else (cell_refusal n N t) late))
  unfolding early_refusal
  by_stages late = sym (or_else-assoc (refused_if (not (is_alphabet n)) 1 0) (refused_if (not (is_lent n N (length t))) 6 0) (or_else by_room (or_else (cell_refusal n N t) late)))

  pub early_lent : {r : Refusal} → Err r ≡ unless (lent_refusal n N t) (tt {0}) → Err r ≡ unless (early_refusal n N t room none) (tt {0})
  early_lent e = rw by_stages (err_first (lent_refusal n N t) (tt {0}) (tt {0}) (or_else by_room (or_else (cell_refusal n N t) none)) e)

  -- the table is lent: room and cells decide
  module _ {u : ⊤} (l : Ok u ≡ unless (lent_refusal n N t) (tt {0})) where
    then_room : {x : Result ⊤ Refusal} → x ≡ unless (or_else by_room (or_else (cell_refusal n N t) none)) (tt {0})
        → x ≡ unless (early_refusal n N t room none) (tt {0})
    then_room e = rw by_stages (ok_next (lent_refusal n N t) (tt {0}) (tt {0}) (or_else by_room (or_else (cell_refusal n N t) none)) l e)

    pub early_room : {r : Refusal} → Err r ≡ unless_short Work (4 * N) room → Err r ≡ unless (early_refusal n N t room none) (tt {0})
    early_room e =
        then_room (err_first by_room (tt {0}) (tt {0}) (or_else (cell_refusal n N t) none) (e ∙ short_unless Work (4 * N) room refl))

    -- there is room: the cells decide
    pub early_cells : {w : ⊤} → Ok w ≡ unless_short Work (4 * N) room → {x : Result ⊤ Refusal} → x ≡ unless (cell_refusal n N t) (tt {0})
        → x ≡ unless (early_refusal n N t room none) (tt {0})
    early_cells m e =
        then_room (ok_next by_room (tt {0}) (tt {0}) (or_else (cell_refusal n N t) none) (m ∙ short_unless Work (4 * N) room refl)
        (rw else_nothing e))

  -- none of them applies
  pub early_none : {u : ⊤} → Ok u ≡ unless (early_refusal n N t room none) (tt {0}) → early_refusal n N t room none ≡ none
  early_none e = (unless_ok (early_refusal n N t room none) (tt {0}) e).0

  pub early_clear : IsLent n N t → faulty_cell N (usual n) (cell n N t) ≡ none → 4 * N ≤ room → early_refusal n N t room none ≡ none
  unfolding cell_refusal
  early_clear l f h = rw (by_stages, lent_free l, le-ltb room (4 * N) h, f)

  pub early_fine : early_refusal n N t room none ≡ none → IsSound n N t × (4 * N ≤ room)
  unfolding cell_refusal
  early_fine e =
      let a = else_none _ _ (sym (by_stages none) ∙ e) in
      let b = else_none _ _ a.1 in
      let d = else_none (at_cell (faulty_cell N (usual n) (cell n N t))) none b.1 in
      let l = lent_told n N t a.0 in (
        record {
          lent = l;
          canonical = table_none_canonical n N t l.lettered (no_cell (faulty_cell N (usual n) (cell n N t)) d.0);
        },
        ltb-false room (4 * N) (unrefused (ltb room (4 * N)) 7 (4 * N) b.0),
      )

  -- what comes behind them
  pub early_else : (late : Option FirstCause) → early_refusal n N t room late ≡ or_else (early_refusal n N t room none) late
  early_else late =
      by_stages late
      ∙ ap (λ o. or_else (lent_refusal n N t) (or_else by_room o)) (ap (λ o. or_else o late) (sym (else_nothing (cell_refusal n N t))))
      ∙ sym (three (lent_refusal n N t) by_room (or_else (cell_refusal n N t) none) late)
      ∙ sym (ap (λ o. or_else o late) (by_stages none))

-- none of them is 9
abbrev Not9 : Option FirstCause → Type 0
Not9 none = Unit {0}
Not9 (some r) = eqb r.number 9 ≡ false

early_not9 : (n N : ℕ) (t : List ℕ) (room : ℕ) → Not9 (early_refusal n N t room none)
unfolding early_refusal cell_refusal
early_not9 n N t room = go (not (is_alphabet n)) (not (is_lent n N (length t))) (ltb room (4 * N)) (faulty_cell N (usual n) (cell n N t))
  where
    go : (a b d : Bool) (o : Option ℕ) → Not9 (or_else (refused_if a 1 0) (or_else (refused_if b 6 0) (or_else (refused_if d 7 (4 * N)) (or_else (at_cell o) none))))
    go true b d o = refl
    go false true d o = refl
    go false false true o = refl
    go false false false (some p) = refl
    go false false false none = tt

module _ (n N : ℕ) (t work out : List ℕ) where
  -- the answer and the buffers of a refusal known
  told : (o : Option FirstCause) {r : Result TextSize Refusal} {work' out' : List ℕ} → basis_refusal n N t (length work) (length out) ≡ o
      → r ≡ unless o (basis_size n N t) → work' ≡ work_for N work o → out' ≡ out_for (basis_text n N t) out o → BasisOutcome n N t work out r work' out'
  told o e a b d =
      record {
        answer = a ∙ sym (ap (λ o. unless o (basis_size n N t)) e);
        cells = b ∙ sym (ap (work_for N work) e);
        text = d ∙ sym (ap (out_for (basis_text n N t) out) e);
      }

  -- what 9 says
  abbrev late : Option FirstCause
  late = refused_if (ltb (length out) (length (basis_text n N t))) 9 (length (basis_text n N t))

  pub early_refused : {r : Refusal} → Err r ≡ unless (early_refusal n N t (length work) none) (tt {0}) → BasisOutcome n N t work out (Err r) work out
  unfolding basis_refusal
  early_refused {r} e =
      let a = unless_err (early_refusal n N t (length work) none) (tt {0}) e in
      go a.0 a.1 a.2 (subst Not9 a.1 (early_not9 n N t (length work)))
    where
      go : (k : FirstCause) → early_refusal n N t (length work) none ≡ some k → r ≡ given k → Not9 (some k) → BasisOutcome n N t work out (Err r) work out
      go k q z m = told (some k) (early_else n N t (length work) late ∙ ap (λ o. or_else o late) q) (ap Err z) (sym (rw m)) refl

  -- the text of all spots is that of the basis
  pub whole_text : text_of (cell n N t) N (usual n) (scan N (usual n)) ≡ basis_text n N t
  unfolding text_of basis_text
  whole_text = ap list_text (basis_scan (cell n N t) N (usual n))

  module _ (fine : early_refusal n N t (length work) none ≡ none) {after : List ℕ} (p : PathsOutcome n N t work after) where
    -- the needed cells are cleared, the later ones are as they were
    cleared : {cells : List ℕ} → cells ≡ filled (4 * N) 0 after → cells ≡ filled (4 * N) 0 work
    unfolding filled
    cleared e = e ∙ ap (λ l. replicate (4 * N) 0 ++ l) kept
      where
        kept : drop (4 * N) after ≡ drop (4 * N) work
        kept =
            let q : 4 * N ≡ 3 * N + N = omega arith in
            ap (λ k. drop k after) q ∙ sym (drop-drop N (3 * N) after) ∙ ap (drop N) p.rest ∙ drop-drop N (3 * N) work ∙ ap (λ k. drop k work) (sym q)

    late_is : basis_refusal n N t (length work) (length out) ≡ late
    unfolding basis_refusal
    late_is = early_else n N t (length work) late ∙ ap (λ o. or_else o late) fine

    module _ {size : TextSize} (s : size ≡ size_in (cell n N t) N (usual n) (scan N (usual n))) where
      bytes_are : size.bytes ≡ length (basis_text n N t)
      unfolding size_in
      bytes_are = ap (λ (a : TextSize). a.bytes) s ∙ ap length whole_text

      size_is : size ≡ basis_size n N t
      unfolding size_in
      size_is =
          s ∙ (λ i. record { words = length (basis_scan (cell n N t) N (usual n) i); bytes = length (whole_text i) })

      pub fits : size.bytes ≤ length out → length (text_of (cell n N t) N (usual n) (scan N (usual n))) ≤ length out
      fits h = omega (arith, bytes_are, ap length whole_text)

      pub late_refused : {r : Refusal} {cells : List ℕ} → length out < size.bytes → r ≡ refusal_at Output size.bytes → cells ≡ filled (4 * N) 0 after
          → BasisOutcome n N t work out (Err r) cells out
      late_refused {r} {cells} h g e =
          told (some (record { number = 9; place = length (basis_text n N t) }))
          (late_is ∙ ap (λ b. refused_if b 9 (length (basis_text n N t))) (lt-ltb (length out) (length (basis_text n N t)) (omega (arith, bytes_are))))
          (ap Err (g ∙ ap (refusal_at Output) bytes_are)) (cleared e) refl

      pub written : {cells text : List ℕ} → size.bytes ≤ length out → text ≡ sets out 0 (text_of (cell n N t) N (usual n) (scan N (usual n)))
          → cells ≡ filled (4 * N) 0 after → BasisOutcome n N t work out (Ok size) cells text
      written {cells} {text} h w e =
          told none
          (late_is ∙ ap (λ b. refused_if b 9 (length (basis_text n N t))) (le-ltb (length out) (length (basis_text n N t)) (omega (arith, bytes_are))))
          (ap Ok size_is) (cleared e)
          (w ∙ ap (sets out 0) whole_text ∙ sets-eq (basis_text n N t) out 0 (omega (arith, bytes_are))
          ∙ ap (λ k. basis_text n N t ++ drop k out) (let z : 0 + length (basis_text n N t) ≡ length (basis_text n N t) = omega arith in z))

-- ── The first cause ──

-- an answer of which the refusal is the first of some causes, all with a number
module _ {A : Type 0} (C : ℕ → ℕ → Type 0) (o : Option FirstCause) (a : A)
    (first : (k p : ℕ) → (o ≡ some (record { number = k; place = p })) ↔ First C k p)
    (numbered : (k p : ℕ) → C k p → Numbered k) where
  pub answered_first : {r : Result A Refusal} → r ≡ unless o a → (cause : Cause) (p : ℕ)
      → (r ≡ Err (refusal_at cause p)) ↔ First C (number_of cause) p
  answered_first {r} e cause p = (forth, λ f. e ∙ ap (λ o. unless o a) ((first (number_of cause) p).1 f) ∙ ap Err (refusal_given cause p))
    where
      forth : r ≡ Err (refusal_at cause p) → First C (number_of cause) p
      forth q =
          let u = unless_err o a (sym q ∙ e) in
          let f = (first u.0.number u.0.place).0 u.1 in
          (first (number_of cause) p).0 (u.1 ∙ given_first u.0 cause p (numbered u.0.number u.0.place f.applies) (sym u.2))

module _ (n N : ℕ) (t : List ℕ) (room space : ℕ) where
  basis_decides : Decides (BasisCause n N t room space) (basis_refusal n N t room space)
  unfolding basis_refusal early_refusal
  basis_decides =
      join (λ k p l q a b. ⊎_elim (λ x. omega (arith, ap turn a.0, ap turn x.0))
      (⊎_elim (λ x. omega (arith, ap turn a.0, ap turn x.0))
      (⊎_elim (λ x. omega (arith, ap turn a.0, ap turn x.0)) (λ x. omega (arith, ap turn a.0, ap turn x.0)))) b)
      (alphabet_decides n)
      (λ _. join (λ k p l q a b. ⊎_elim (λ x. omega (arith, ap turn a.0, ap turn x.0))
      (⊎_elim (λ x. omega (arith, ap turn a.0, ap turn x.0)) (λ x. omega (arith, ap turn a.0, ap turn x.0))) b)
      (lent_decides n N (length t))
      (λ clear. join (λ k p l q a b. ⊎_elim (λ x. omega (arith, ap turn a.0, ap turn x.0)) (λ x. omega (arith, ap turn a.0, ap turn x.0)) b)
      (short_decides (4 * N) room)
      (λ _. join (λ k p l q a b. omega (arith, ap turn a.0, ap turn b.0))
      (cells_decide n N t (points_small n N (length t) clear))
      (λ _. only_if 9 (ltb space (length (basis_text n N t))) (length (basis_text n N t))
      (λ e. (refl, ltb-true space (length (basis_text n N t)) e)) (λ q x. (lt-ltb space (length (basis_text n N t)) x.1, x.0))))))

  -- a basis is refused by a number at a place exactly if that is the first cause that applies
  pub basis_refusal_first : (k p : ℕ)
      → (basis_refusal n N t room space ≡ some (record { number = k; place = p })) ↔ First (BasisCause n N t room space) k p
  basis_refusal_first = decided_first basis_decides

  pub basis_refusal_none : (basis_refusal n N t room space ≡ none) ↔ ((k p : ℕ) → BasisCause n N t room space k p → ⊥)
  basis_refusal_none = decided_none basis_decides

  pub basis_numbered : (k p : ℕ) → BasisCause n N t room space k p → Numbered k
  basis_numbered k p =
      ⊎_elim (numbered_only {k = k} {p = p} 1 (Cause1 n) refl)
      (⊎_elim (numbered_only {k = k} {p = p} 6 (Cause6Lent n N (length t)) refl)
      (⊎_elim (numbered_only {k = k} {p = p} 7 (CauseShort (4 * N) room) refl)
      (⊎_elim (numbered_only {k = k} {p = p} 8 (Cause8 n N t) refl) (numbered_only {k = k} {p = p} 9 (CauseShort (length (basis_text n N t)) space) refl))))
