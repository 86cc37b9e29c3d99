-- What a result of `walk` tells (`specs/Walks`), for those who call it.
--   walk_ok, walk_err       : no refusal, and what was counted; or which refusal
--   walk_verdict            : only whether it was refused, and by what
--   walk_sound, walk_faulty : no faulty cell, or which
--   walk_edges, walk_full   : the counts of a sound walk
--   walk_canonical          : a table of a sound walk is canonical
--   walk_connected          : it has at least as many edges as points besides the base
--   walk_small              : it has at most as many edges as cells
-- Assumes nothing.
use mathlib.Core.Path.{◌≡◌, sym, ◌∙◌, ap}
use mathlib.Core.Option.{Option, none, some, some-injective}
use mathlib.Core.List.{List}
use Prim.Native.Nat.{ℕ, zero, suc, ◌+◌, ◌*◌, ◌≤◌}
use native.Mathlib.Nat.{suc-mul}
use native.Mathlib.Omega.{arith}
use lib.ListN.{length, length-append, length-map}
use Rattle.std.specs.declared.result.Result.{Result}
use Rattle.std.specs.declared.result.Result.TheVariants.{Ok, Err}
use Rattle.theory.specs.Letters.{usual}
use Rattle.theory.specs.Refusals.{Refusal as FirstCause}
use Rattle.theory.specs.TableRefusals.{at_cell, cell_refusal}
use Rattle.theory.specs.Tables.{cell}
use Rattle.theory.specs.Canonical.{Canonical, faulty_cell}
use Rattle.theory.specs.Basis.{Spot, spots_of, scan, is_edge, edges_of, is_full}
use Rattle.theory.proofs.TableLaws.{length_usual}
use Rattle.theory.proofs.TableRefusalLaws.{no_cell}
use Rattle.theory.proofs.CanonicalLaws.{table_none_canonical}
use Rattle.theory.proofs.PathLaws.{usual_setting}
use Rattle.theory.proofs.EdgeLaws.{those_length}
use Rattle.theory.proofs.EdgeCounts.{table_connected}
use Rattle.refusals.specs.declared.Cause.TheVariants.{Faulty}
use Rattle.refusals.specs.declared.Refusal.{Refusal}
use Rattle.refusals.specs.Given.{given, unless}
use Rattle.refusals.proofs.UnlessLaws.{unless_ok, unless_err}
use Rattle.tables.specs.Lent.{verdict}
use Rattle.tables.specs.Walks.{walk_of, walked_as}
use Rattle.tables.specs.declared.Walked.{Walked}
use Rattle.tables.proofs.LentLaws.{verdict_unless}

-- the scan of N rows has N times as many spots as there are letters
scan_length : (N : ℕ) (ys : List ℕ) → length (scan N ys) ≡ N * length ys
unfolding scan spots_of
scan_length zero ys = omega arith
scan_length (suc N) ys =
    omega (
      arith,
      length-append (scan N ys) (spots_of ys N),
      scan_length N ys,
      suc-mul N (length ys),
      length-map {B = Spot} ys (λ y. record { point = N; letter = y }),
    )

-- a refusal at a cell is by 8
at_some : (o : Option ℕ) (c : FirstCause) (r : Refusal) → at_cell o ≡ some c → r ≡ given c → (o ≡ some r.place) × (r.cause ≡ Faulty)
at_some none c r e g = absurd (let z : ◌≡◌ {A = ℕ} 0 1 = cc in omega arith)
at_some (some p) c r e g =
    let q : r ≡ given (record { number = 8; place = p }) = g ∙ sym (ap given (some-injective _ _ e)) in
    (ap some (sym (ap (λ (x : Refusal). x.place) q)), ap (λ (x : Refusal). x.cause) q)

module _ (n N : ℕ) (t : List ℕ) where
  pub walk_ok : {w : Walked} → Ok w ≡ walked_as n N t → (cell_refusal n N t ≡ none) × (w ≡ walk_of n N t)
  unfolding walked_as
  walk_ok e = unless_ok (cell_refusal n N t) (walk_of n N t) e

  pub walk_err : {r : Refusal} → Err r ≡ walked_as n N t → (c : FirstCause) × (cell_refusal n N t ≡ some c) × (r ≡ given c)
  unfolding walked_as
  walk_err e = unless_err (cell_refusal n N t) (walk_of n N t) e

  -- whatever it counts
  pub walk_verdict : {r : Result Walked Refusal} → r ≡ walked_as n N t → verdict r ≡ unless (cell_refusal n N t) (tt {0})
  unfolding walked_as
  walk_verdict e = ap verdict e ∙ verdict_unless (cell_refusal n N t) (walk_of n N t)

  pub walk_sound : {w : Walked} → Ok w ≡ walked_as n N t → faulty_cell N (usual n) (cell n N t) ≡ none
  unfolding cell_refusal
  walk_sound e = no_cell (faulty_cell N (usual n) (cell n N t)) (walk_ok e).0

  pub walk_faulty : {r : Refusal} → Err r ≡ walked_as n N t
      → (faulty_cell N (usual n) (cell n N t) ≡ some r.place) × (r.cause ≡ Faulty)
  unfolding cell_refusal
  walk_faulty {r} e = let q = walk_err e in at_some (faulty_cell N (usual n) (cell n N t)) q.0 r q.1 q.2

  pub walk_edges : {w : Walked} → Ok w ≡ walked_as n N t → w.edges ≡ length (edges_of (cell n N t) N (usual n))
  walk_edges e = ap (λ (w : Walked). w.edges) (walk_ok e).1

  pub walk_full : {w : Walked} → Ok w ≡ walked_as n N t → w.full ≡ is_full (cell n N t) N (usual n)
  walk_full e = ap (λ (w : Walked). w.full) (walk_ok e).1

  pub walk_canonical : {w : Walked} → 1 ≤ n → Ok w ≡ walked_as n N t → Canonical N (usual n) (cell n N t)
  walk_canonical h e = table_none_canonical n N t h (walk_sound e)

  pub walk_connected : {w : Walked} → 1 ≤ n → 1 ≤ N → Ok w ≡ walked_as n N t → N ≤ w.edges + 1
  walk_connected h k e =
      omega (arith, walk_edges e, table_connected (usual_setting n N t (walk_canonical h e) (omega arith)))

  pub walk_small : {w : Walked} → Ok w ≡ walked_as n N t → w.edges ≤ N * (2 * n)
  unfolding edges_of
  walk_small e =
      omega (
        arith,
        walk_edges e,
        those_length (is_edge (cell n N t)) (scan N (usual n)),
        scan_length N (usual n),
        ap (λ w. N * w) (length_usual n),
      )
