-- What `load` refuses, and why (`specs/Causes`).
--   load_refusal_first : a cause at place p is refused exactly if its number is the first there in the files' order
--   load_refusal_none  : the answer is no refusal exactly if no cause applies
-- Assumes nothing.
use mathlib.Core.Path.{◌≡◌, refl, sym, ◌∙◌, ap, subst}
use mathlib.Core.Logic.{◌⊎◌, inl, inr, ⊎_elim, ◌↔◌}
use mathlib.Core.Bool.{Bool, true, false, cond, ◌||◌, true≢false}
use mathlib.Core.Option.{Option, none, some, some-injective, none-ne-some}
use mathlib.Core.List.{List, map}
use Prim.Native.Nat.{ℕ, ◌+◌, ◌*◌}
use native.Mathlib.Omega.{arith}
use lib.Dec.{eqb, ltb}
use lib.ListN.{length}
use borrow.Author.Tests.{eqb-true, eqb-false, ltb-true, ltb-false}
use Rattle.std.specs.declared.result.Result.{Result}
use Rattle.std.specs.declared.result.Result.TheVariants.{Ok, Err}
use Rattle.theory.specs.Files.{number_limit}
use Rattle.theory.specs.Refusals.{Refusal as FirstCause, is_alphabet, text_limit}
use Rattle.theory.specs.TableRefusals.{is_lent, cell_refusal}
use Rattle.theory.specs.Texts.{list_text}
use Rattle.theory.proofs.TableRefusalLaws.{lent_in}
use Rattle.refusals.specs.declared.Refusal.{Refusal}
use Rattle.refusals.specs.declared.Cause.{Cause}
use Rattle.refusals.specs.Given.{number_of, cause_of, refusal_at, given}
use Rattle.refusals.proofs.UnlessLaws.{cause_numbered}
use Rattle.runs.specs.Runs.{Run, broken, whole, number_at, behind, numbers_at}
use Rattle.table_files.specs.TableFiles.{TableIn, refused, faulty, sound, number_cell, by_fault, cells_in, points_in, table_in}
use Rattle.list_files.specs.ListFiles.{Words, stopped, read, words_at, ListIn, refused as unlisted, listed, words_in, count_in, list_in}
use Rattle.loads.specs.declared.Loaded.{Loaded}
use Rattle.loads.specs.Loads.{FileIn, unread, table_met, list_met, by_kind, after_n, after_kind, file_in, loaded_for, LoadOutcome}
use Rattle.loads.specs.Causes.{
  FileCause,
  kind_missing,
  kind_other,
  n_missing,
  n_beyond,
  count_missing,
  points_wrong,
  cell_missing,
  number_missing,
  letter_beyond,
  cells_end,
  words_end,
  cell_faulty,
  text_long,
  text_narrow,
  FirstInFile,
}
use Rattle.loads.proofs.Events.{RunVerdict, run_verdict, WordsVerdict, words_verdict}
use Rattle.loads.proofs.FirstCauses.{clear_all, Least, least_first, least_one}
use Rattle.loads.proofs.Steps.{third, Three, Cleared, kind_none, kind_bad, kind_good, n_none, n_bad, n_good, count_none, points_bad, count_good}
use Rattle.loads.proofs.TableSteps as table-steps
use Rattle.loads.proofs.ListSteps as list_steps

-- the refusal that is met, if one is
abbrev pub table_refusal : TableIn → Option FirstCause
table_refusal (refused r) = some r
table_refusal (faulty k r) = some r
table_refusal (sound N t) = none

abbrev pub list_refusal : ListIn → Option FirstCause
list_refusal (unlisted r) = some r
list_refusal (listed ws) = none

abbrev pub refusal_of : FileIn → Option FirstCause
refusal_of (unread r) = some r
refusal_of (table_met n m) = table_refusal m
refusal_of (list_met n m) = list_refusal m

module _ (file : List ℕ) (cells space : ℕ) where
  -- it is the first cause, or there is none
  abbrev Judged : Option FirstCause → Type 0
  Judged none = (u l q : ℕ) → FileCause file cells space u l q → ⊥
  Judged (some r) = (s : ℕ) × Least file cells space s r.number r.place

  -- ── A table ──

  module _ (n N : ℕ) (h : Three file 1 n N) (lent : is_lent n N cells ≡ true) (c3 : Cleared file cells space 3) where
    judged_fault : (xs : List ℕ) (z : ℕ) → RunVerdict (number_limit + 1) file (third 1 n N) (N * (2 * n)) (whole xs z) → Cleared file cells space 5
        → (o : Option FirstCause) → cell_refusal n N (map number_cell xs) ≡ o → Judged (table_refusal (by_fault N (map number_cell xs) o))
    judged_fault xs z v c5 none e =
        clear_all file cells space
        (table-steps.table_space file cells space n N h
        (table-steps.fault_none file cells space n N h xs z v.1 v.2 v.3 (omega (arith, (lent_in n N cells lent).1)) c5 e))
    judged_fault xs z v c5 (some r) e =
        (5, table-steps.fault_first file cells space n N h xs z v.1 v.2 v.3 (omega (arith, (lent_in n N cells lent).1)) c5 r e)

    judged_end : (xs : List ℕ) (z : ℕ) → RunVerdict (number_limit + 1) file (third 1 n N) (N * (2 * n)) (whole xs z) → (b : Bool) → ltb z (length file) ≡ b
        → Judged (table_refusal (cond b (refused (record { number = 12; place = z })) (by_fault N (map number_cell xs) (cell_refusal n N (map number_cell xs)))))
    judged_end xs z v true e =
        (4, table-steps.cells_over file cells space n N h xs z v.1 v.2 v.3 (table-steps.cells_whole file cells space n N h c3 xs z v) (ltb-true z (length file) e))
    judged_end xs z v false e =
        judged_fault xs z v
        (table-steps.cells_ended file cells space n N h xs z v.1 v.2 v.3 (table-steps.cells_whole file cells space n N h c3 xs z v) (ltb-false z (length file) e))
        (cell_refusal n N (map number_cell xs)) refl

    judged_cells : (run : Run) → RunVerdict (number_limit + 1) file (third 1 n N) (N * (2 * n)) run → Judged (table_refusal (cells_in n N file run))
    judged_cells (broken r) v = (3, table-steps.cells_broken file cells space n N h c3 r v)
    judged_cells (whole xs z) v = judged_end xs z v (ltb z (length file)) refl

  -- ── A list ──

  module _ (n k : ℕ) (h : Three file 2 n k) (c3 : Cleared file cells space 3) where
    module _ (ws : List (List ℕ)) (z : ℕ) (v : WordsVerdict n file (third 2 n k) k (read ws z)) where
      judged_space : Cleared file cells space 6 → (b : Bool) → ltb space (length (list_text ws)) ≡ b
          → Judged (list_refusal (cond b (unlisted (record { number = 9; place = length (list_text ws) })) (listed ws)))
      judged_space c6 true e = (6, list_steps.space_short file cells space n k h ws z v.1 v.2 v.3 c6 (ltb-true space (length (list_text ws)) e))
      judged_space c6 false e =
          clear_all file cells space (list_steps.space_enough file cells space n k h ws z v.1 v.2 v.3 c6 (ltb-false space (length (list_text ws)) e))

      judged_text : Cleared file cells space 5 → (b : Bool) → ltb text_limit (length (list_text ws)) ≡ b
          → Judged (list_refusal (cond b (unlisted (record { number = 2; place = 0 }))
          (cond (ltb space (length (list_text ws))) (unlisted (record { number = 9; place = length (list_text ws) })) (listed ws))))
      judged_text c5 true e = (5, list_steps.text_over file cells space n k h ws z v.1 v.2 v.3 c5 (ltb-true text_limit (length (list_text ws)) e))
      judged_text c5 false e =
          judged_space (list_steps.text_within file cells space n k h ws z v.1 v.2 v.3 c5 (ltb-false text_limit (length (list_text ws)) e))
          (ltb space (length (list_text ws))) refl

      judged_over : (b : Bool) → ltb z (length file) ≡ b
          → Judged (list_refusal (cond b (unlisted (record { number = 12; place = z }))
          (cond (ltb text_limit (length (list_text ws))) (unlisted (record { number = 2; place = 0 }))
          (cond (ltb space (length (list_text ws))) (unlisted (record { number = 9; place = length (list_text ws) })) (listed ws)))))
      judged_over true e =
          (4, list_steps.words_over file cells space n k h ws z v.1 v.2 v.3 (list_steps.words_whole file cells space n k h c3 ws z v) (ltb-true z (length file) e))
      judged_over false e =
          judged_text
          (list_steps.words_ended file cells space n k h ws z v.1 v.2 v.3 (list_steps.words_whole file cells space n k h c3 ws z v) (ltb-false z (length file) e))
          (ltb text_limit (length (list_text ws))) refl

    judged_words : (u : Words) → WordsVerdict n file (third 2 n k) k u → Judged (list_refusal (words_in space file u))
    judged_words (stopped r) v = (3, list_steps.words_stopped file cells space n k h c3 r v)
    judged_words (read ws z) v = judged_over ws z v (ltb z (length file)) refl

  -- ── The kind, n and the count ──

  module _ (n : ℕ) (p : ℕ) where
    judged_points : (k0 : number_at file 0 ≡ some 1) → p ≡ behind (behind 0 1) n → number_at file (behind 0 1) ≡ some n → Cleared file cells space 1 → Cleared file cells space 2
        → (o : Option ℕ) → number_at file p ≡ o → Judged (table_refusal (points_in n cells file p o))
    judged_points k0 i n0 c1 c2 none e =
        (2, subst (λ q. Least file cells space 2 10 q) (sym i) (count_none file cells space 1 k0 c1 n n0 c2 (subst (λ q. number_at file q ≡ none) i e)))
    judged_points k0 i n0 c1 c2 (some N) e = go (is_lent n N cells) refl
      where
        N0 : number_at file (behind (behind 0 1) n) ≡ some N
        N0 = subst (λ q. number_at file q ≡ some N) i e

        go : (b : Bool) → is_lent n N cells ≡ b
            → Judged (table_refusal (cond b (cells_in n N file (numbers_at (number_limit + 1) file (behind p N) (N * (2 * n)))) (refused (record { number = 6; place = 0 }))))
        go true f =
            judged_cells n N (record { first = k0; second = n0; last = N0 }) f (count_good file cells space 1 k0 c1 n n0 c2 N N0 (λ _. f))
            (numbers_at (number_limit + 1) file (behind p N) (N * (2 * n)))
            (subst (λ q. RunVerdict (number_limit + 1) file (third 1 n N) (N * (2 * n)) (numbers_at (number_limit + 1) file (behind q N) (N * (2 * n)))) (sym i)
            (run_verdict (number_limit + 1) file (N * (2 * n)) (third 1 n N)))
        go false f = (2, points_bad file cells space 1 k0 c1 n n0 c2 N N0 refl f)

    judged_count : (k0 : number_at file 0 ≡ some 2) → p ≡ behind (behind 0 2) n → number_at file (behind 0 2) ≡ some n → Cleared file cells space 1 → Cleared file cells space 2
        → (o : Option ℕ) → number_at file p ≡ o → Judged (list_refusal (count_in n space file p o))
    judged_count k0 i n0 c1 c2 none e =
        (2, subst (λ q. Least file cells space 2 10 q) (sym i) (count_none file cells space 2 k0 c1 n n0 c2 (subst (λ q. number_at file q ≡ none) i e)))
    judged_count k0 i n0 c1 c2 (some k) e =
        let N0 = subst (λ q. number_at file q ≡ some k) i e in
        judged_words n k (record { first = k0; second = n0; last = N0 })
        (count_good file cells space 2 k0 c1 n n0 c2 k N0 (λ f. absurd (omega (arith, f))))
        (words_at n file (behind p k) k)
        (subst (λ q. WordsVerdict n file (third 2 n k) k (words_at n file (behind q k) k)) (sym i) (words_verdict n file k (third 2 n k)))

  module _ (kind : ℕ) (k0 : number_at file 0 ≡ some kind) (good : (kind ≡ 1) ⊎ (kind ≡ 2)) where
    c1 : Cleared file cells space 1
    c1 = kind_good file cells space kind k0 good

    judged_part : (n : ℕ) → number_at file (behind 0 kind) ≡ some n → Cleared file cells space 2 → (b : Bool) → eqb kind 1 ≡ b
        → Judged (refusal_of (cond b (table_met n (table_in n cells file (behind (behind 0 kind) n))) (list_met n (list_in n space file (behind (behind 0 kind) n)))))
    unfolding table_in list_in
    judged_part n n0 c2 true e =
        let f = eqb-true kind 1 e in
        judged_points n (behind (behind 0 kind) n) (k0 ∙ ap some f) (ap (λ k. behind (behind 0 k) n) f)
        (subst (λ k. number_at file (behind 0 k) ≡ some n) f n0) c1 c2 (number_at file (behind (behind 0 kind) n)) refl
    judged_part n n0 c2 false e =
        let f : kind ≡ 2 = ⊎_elim (λ i. absurd (eqb-false kind 1 e i)) (λ i. i) good in
        judged_count n (behind (behind 0 kind) n) (k0 ∙ ap some f) (ap (λ k. behind (behind 0 k) n) f)
        (subst (λ k. number_at file (behind 0 k) ≡ some n) f n0) c1 c2 (number_at file (behind (behind 0 kind) n)) refl

    judged_n : (o : Option ℕ) → number_at file (behind 0 kind) ≡ o → Judged (refusal_of (after_n cells space file kind (behind 0 kind) o))
    judged_n none e = (1, n_none file cells space kind k0 c1 e)
    judged_n (some n) e = go (is_alphabet n) refl
      where
        go : (b : Bool) → is_alphabet n ≡ b
            → Judged (refusal_of (cond b (by_kind cells space file kind n (behind (behind 0 kind) n)) (unread (record { number = 1; place = 0 }))))
        go true f = judged_part n e (n_good file cells space kind k0 c1 n e f) (eqb kind 1) refl
        go false f = (1, n_bad file cells space kind k0 c1 n e f)

  judged_kind : (o : Option ℕ) → number_at file 0 ≡ o → Judged (refusal_of (after_kind cells space file o))
  judged_kind none e = (0, kind_none file cells space e)
  judged_kind (some kind) e = go (eqb kind 1) refl (eqb kind 2) refl
    where
      go : (a : Bool) → eqb kind 1 ≡ a → (b : Bool) → eqb kind 2 ≡ b
          → Judged (refusal_of (cond (a || b) (after_n cells space file kind (behind 0 kind) (number_at file (behind 0 kind))) (unread (record { number = 11; place = 0 }))))
      go true f b g = judged_n kind e (inl (eqb-true kind 1 f)) (number_at file (behind 0 kind)) refl
      go false f true g = judged_n kind e (inr (eqb-true kind 2 g)) (number_at file (behind 0 kind)) refl
      go false f false g = (0, kind_bad file cells space kind e (eqb-false kind 1 f) (eqb-false kind 2 g))

  pub judged : Judged (refusal_of (file_in cells space file))
  unfolding file_in
  judged = judged_kind (number_at file 0) refl

  -- ── Either way ──

  met_first : (k p : ℕ) → refusal_of (file_in cells space file) ≡ some (record { number = k; place = p }) → FirstInFile file cells space k p
  met_first k p e = least_first file cells space (subst Judged e judged).1

  first_met_lem : (k p : ℕ) → FirstInFile file cells space k p → refusal_of (file_in cells space file) ≡ some (record { number = k; place = p })
  first_met_lem k p f = go (refusal_of (file_in cells space file)) judged
    where
      go : (o : Option FirstCause) → Judged o → o ≡ some (record { number = k; place = p })
      go none j = absurd (j f.step k p f.applies)
      go (some r) (s, j) =
          let e = least_one file cells space j k p f in
          ap some (λ i. record { number = e.0 i; place = e.1 i })

-- ── The answer ──

-- each cause has its number in document 01's table
numbered : {file : List ℕ} {cells space s k p : ℕ} → FileCause file cells space s k p → number_of (cause_of k) ≡ k
numbered (kind_missing p m) = refl
numbered (kind_other kind p t c) = refl
numbered (n_missing kind p m) = refl
numbered (n_beyond kind n p t c) = refl
numbered (count_missing kind n p m) = refl
numbered (points_wrong n N p t c) = refl
numbered (cell_missing n N p xs h m) = refl
numbered (number_missing n k p xs u m) = refl
numbered (letter_beyond n k p y xs u t h e) = refl
numbered (cells_end n N p xs h t c) = refl
numbered (words_end n p ws t c) = refl
numbered (cell_faulty n N p xs h t c) = refl
numbered (text_long n p ws t c) = refl
numbered (text_narrow n p ws t c) = refl

-- the refusal that is answered is the one that is met
refused_met : (m : FileIn) {q : Refusal} → loaded_for m ≡ Err q → (c : FirstCause) × (refusal_of m ≡ some c) × (q ≡ given c)
refused_met m {q} e = go m e
  where
    one : {a : Refusal} → ◌≡◌ {A = Result Loaded Refusal} (Err a) (Err q) → q ≡ a
    one e = cc

    apart : {a : Loaded} → Ok a ≡ Err q → ⊥
    apart e = true≢false cc

    go : (m : FileIn) → loaded_for m ≡ Err q → (c : FirstCause) × (refusal_of m ≡ some c) × (q ≡ given c)
    go (unread c) e = (c, refl, one e)
    go (table_met n (refused c)) e = (c, refl, one e)
    go (table_met n (faulty k c)) e = (c, refl, one e)
    go (table_met n (sound N t)) e = absurd (apart e)
    go (list_met n (unlisted c)) e = (c, refl, one e)
    go (list_met n (listed ws)) e = absurd (apart e)

met_refused : (m : FileIn) (r : FirstCause) → refusal_of m ≡ some r → loaded_for m ≡ Err (given r)
met_refused m r e = go m e
  where
    one : {c : FirstCause} → some c ≡ some r → ◌≡◌ {A = Result Loaded Refusal} (Err (given c)) (Err (given r))
    one e = ap (λ c. Err (given c)) (some-injective _ _ e)

    go : (m : FileIn) → refusal_of m ≡ some r → loaded_for m ≡ Err (given r)
    go (unread c) e = one e
    go (table_met n (refused c)) e = one e
    go (table_met n (faulty k c)) e = one e
    go (table_met n (sound N t)) e = absurd (none-ne-some _ e)
    go (list_met n (unlisted c)) e = one e
    go (list_met n (listed ws)) e = absurd (none-ne-some _ e)

module _ (file table text : List ℕ) {r : Result Loaded Refusal} {table' text' : List ℕ} (h : LoadOutcome file table text r table' text') where
  abbrev met : FileIn
  met = file_in (length table) (length text) file

  -- a refusal that is answered is of the first cause
  refused_first : {q : Refusal} → r ≡ Err q → FirstInFile file (length table) (length text) (number_of q.cause) q.place
  refused_first {q} e =
      let c = refused_met met (sym h.answer ∙ e) in
      let f = met_first file (length table) (length text) c.0.number c.0.place c.1 in
      let n : c.0.number ≡ number_of q.cause = sym (numbered f.applies) ∙ ap (λ (q : Refusal). number_of q.cause) (sym c.2) in
      let p : c.0.place ≡ q.place = ap (λ (q : Refusal). q.place) (sym c.2) in
      subst (λ k. FirstInFile file (length table) (length text) k q.place) n
      (subst (λ p. FirstInFile file (length table) (length text) c.0.number p) p f)

  pub load_refusal_first : (cause : Cause) (p : ℕ) → (r ≡ Err (refusal_at cause p)) ↔ FirstInFile file (length table) (length text) (number_of cause) p
  load_refusal_first cause p = (
    λ e. refused_first e,
    λ f. h.answer
        ∙ met_refused met (record { number = number_of cause; place = p })
        (first_met_lem file (length table) (length text) (number_of cause) p f)
        ∙ ap (λ c. Err (refusal_at c p)) (cause_numbered cause),
  )

  pub load_refusal_none : ((q : Refusal) → r ≡ Err q → ⊥) ↔ ((s k p : ℕ) → FileCause file (length table) (length text) s k p → ⊥)
  load_refusal_none = (
    λ g. go g (refusal_of met) refl (judged file (length table) (length text)),
    λ g q e. let f = refused_first e in g f.step (number_of q.cause) q.place f.applies,
  )
    where
      go : ((q : Refusal) → r ≡ Err q → ⊥) → (o : Option FirstCause) → refusal_of met ≡ o
          → Judged file (length table) (length text) o → (s k p : ℕ) → FileCause file (length table) (length text) s k p → ⊥
      go g none e j = j
      go g (some c) e j = absurd (g (given c) (h.answer ∙ met_refused met c e))
