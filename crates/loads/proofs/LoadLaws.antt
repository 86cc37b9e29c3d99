-- The answers of `load` and its parts (`specs/Loads`), on plain values.
--   next_inside                          : the place behind a number is in the file
--   n_missing, n_beyond, n_there         : `load_kind`
--   kind_missing, kind_other, kind_there : `load`
-- Assumes nothing.
use mathlib.Core.Path.{◌≡◌, refl, sym, ◌∙◌, ap, subst}
use mathlib.Core.Bool.{Bool, true, false, cond, not, ◌||◌, true≢false}
use mathlib.Core.Option.{some}
use mathlib.Core.List.{List}
use Prim.Native.Nat.{ℕ, ◌≤◌}
use lib.Dec.{eqb}
use lib.ListN.{length}
use borrow.Author.Tests.{eqb-true}
use Rattle.std.specs.Prelude.{⊤}
use Rattle.std.specs.declared.result.Result.{Result}
use Rattle.std.specs.declared.result.Result.TheVariants.{Ok, Err}
use Rattle.theory.specs.Refusals.{Refusal as FirstCause, is_alphabet, refused_if}
use Rattle.refusals.specs.declared.Cause.TheVariants.{Kind as KindCause}
use Rattle.refusals.specs.declared.Refusal.{Refusal}
use Rattle.refusals.specs.Given.{refusal_at, given, unless}
use Rattle.numbers.specs.declared.Number.{Number}
use Rattle.numbers.specs.Reads.{Stands, ReadAt}
use Rattle.runs.specs.Runs.{number_at, behind}
use Rattle.runs.proofs.Standing.{none_standing, standing_complete, behind_inside}
use Rattle.numbers.specs.declared.Kind.{Kind}
use Rattle.numbers.specs.declared.Kind.TheVariants.{Table as TableKind, List as ListKind}
use Rattle.loads.specs.declared.Loaded.{Loaded}
use Rattle.numbers.specs.Kinds.{kind_number, kind_for}
use Rattle.loads.specs.Loads.{FileIn, unread, by_kind, after_n, after_kind, file_in, FileOutcome, LoadOutcome}

-- the place behind a number that was read
module _ (file : List ℕ) (p : ℕ) (number : Number) (a : Stands file p number) where
  next_is : number.next ≡ behind p number.value
  unfolding behind
  next_is = a.1

  pub next_inside : p ≤ length file → number.next ≤ length file
  next_inside h = subst (λ q. q ≤ length file) (sym next_is) (behind_inside file p number.value h a.0).1

  stands : number_at file p ≡ some number.value
  stands = standing_complete file p number.value a.0

-- what the kind of a number tells of it
kind_told : {k : ℕ} {kind : Kind} → Ok kind ≡ kind_for k → (k ≡ kind_number kind) × ((eqb k 1 || eqb k 2) ≡ true)
kind_told {k} {kind} e = go (eqb k 1) refl (eqb k 2) refl e
  where
    one : {a b : Kind} → ◌≡◌ {A = Result Kind Refusal} (Ok a) (Ok b) → b ≡ a
    one e = cc

    go : (a : Bool) → eqb k 1 ≡ a → (b : Bool) → eqb k 2 ≡ b → Ok kind ≡ cond a (Ok TableKind) (cond b (Ok ListKind) (Err (refusal_at KindCause 0)))
        → (k ≡ kind_number kind) × ((a || b) ≡ true)
    go true f b g e = (eqb-true k 1 f ∙ ap kind_number (one e), refl)
    go false f true g e = (eqb-true k 2 g ∙ ap kind_number (one e), refl)
    go false f false g e = absurd (true≢false cc)

kind_untold : (k : ℕ) {r : Refusal} → Err r ≡ kind_for k → (r ≡ refusal_at KindCause 0) × ((eqb k 1 || eqb k 2) ≡ false)
kind_untold k {r} e = go (eqb k 1) (eqb k 2) e
  where
    go : (a b : Bool) → Err r ≡ cond a (Ok TableKind) (cond b (Ok ListKind) (Err (refusal_at KindCause 0)))
        → (r ≡ refusal_at KindCause 0) × ((a || b) ≡ false)
    go true b e = absurd (true≢false cc)
    go false true e = absurd (true≢false cc)
    go false false e = (cc, refl)

module _ (file table text : List ℕ) where
  -- a refusal changes nothing
  told : {m : FileIn} (c : FirstCause) {r : Refusal} → m ≡ unread c → r ≡ given c → FileOutcome m table text (Err r) table text
  told {m} c {r} e f =
      subst (λ m. FileOutcome m table text (Err r) table text) (sym e) (record { answer = ap Err f; cells = refl; bytes = refl })

  -- n, behind the kind
  module _ (kind p : ℕ) where
    abbrev from_n : FileIn
    from_n = after_n (length table) (length text) file kind p (number_at file p)

    pub n_missing : {r : Refusal} → ReadAt file p (Err r) → FileOutcome from_n table text (Err r) table text
    n_missing a = told (record { number = 10; place = p }) (ap (after_n (length table) (length text) file kind p) (none_standing file p a.1)) a.0

    module _ (n : Number) (a : Stands file p n) where
      from_is : (b : Bool) → is_alphabet n.value ≡ b
          → from_n ≡ cond b (by_kind (length table) (length text) file kind n.value n.next) (unread (record { number = 1; place = 0 }))
      from_is b f =
          ap (after_n (length table) (length text) file kind p) (stands file p n a)
          ∙ ap (λ b. cond b (by_kind (length table) (length text) file kind n.value (behind p n.value)) (unread (record { number = 1; place = 0 }))) f
          ∙ ap (λ q. cond b (by_kind (length table) (length text) file kind n.value q) (unread (record { number = 1; place = 0 }))) (sym (next_is file p n a))

      pub n_beyond : {r : Refusal} → Err r ≡ unless {A = ⊤} (refused_if (not (is_alphabet n.value)) 1 0) tt → FileOutcome from_n table text (Err r) table text
      n_beyond {r} e = go (is_alphabet n.value) refl e
        where
          go : (b : Bool) → is_alphabet n.value ≡ b → Err r ≡ unless {A = ⊤} (refused_if (not b) 1 0) tt → FileOutcome from_n table text (Err r) table text
          go true f e = absurd (true≢false cc)
          go false f e = told (record { number = 1; place = 0 }) (from_is false f) cc

      pub n_there : {r : Result Loaded Refusal} {table' text' : List ℕ} → is_alphabet n.value ≡ true
          → FileOutcome (by_kind (length table) (length text) file kind n.value n.next) table text r table' text'
          → FileOutcome from_n table text r table' text'
      n_there {r} {table'} {text'} f h = subst (λ m. FileOutcome m table text r table' text') (sym (from_is true f)) h

  -- the kind
  pub kind_missing : {r : Refusal} → ReadAt file 0 (Err r) → LoadOutcome file table text (Err r) table text
  unfolding file_in
  kind_missing a =
      told (record { number = 10; place = 0 }) (ap (after_kind (length table) (length text) file) (none_standing file 0 a.1)) a.0

  module _ (number : Number) (a : Stands file 0 number) where
    whole_is : (b : Bool) → (eqb number.value 1 || eqb number.value 2) ≡ b
        → file_in (length table) (length text) file
        ≡ cond b (after_n (length table) (length text) file number.value number.next (number_at file number.next)) (unread (record { number = 11; place = 0 }))
    unfolding file_in
    whole_is b f =
        ap (after_kind (length table) (length text) file) (stands file 0 number a)
        ∙ ap (λ b. cond b (after_n (length table) (length text) file number.value (behind 0 number.value) (number_at file (behind 0 number.value))) (unread (record { number = 11; place = 0 }))) f
        ∙ ap (λ q. cond b (after_n (length table) (length text) file number.value q (number_at file q)) (unread (record { number = 11; place = 0 }))) (sym (next_is file 0 number a))

    pub kind_other : {r : Refusal} → Err r ≡ kind_for number.value → LoadOutcome file table text (Err r) table text
    kind_other e = let k = kind_untold number.value e in told (record { number = 11; place = 0 }) (whole_is false k.1) k.0

    pub kind_there : (kind : Kind) {r : Result Loaded Refusal} {table' text' : List ℕ} → Ok kind ≡ kind_for number.value
        → FileOutcome (after_n (length table) (length text) file (kind_number kind) number.next (number_at file number.next)) table text r table' text'
        → LoadOutcome file table text r table' text'
    kind_there kind {r} {table'} {text'} e h =
        let k = kind_told e in
        subst (λ m. FileOutcome m table text r table' text')
        (sym (whole_is true k.1 ∙ ap (λ k. after_n (length table) (length text) file k number.next (number_at file number.next)) k.0)) h
