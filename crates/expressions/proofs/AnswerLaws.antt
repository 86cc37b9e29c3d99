-- The stages of `express` on plain values: what is said of the query's word, and what is left in the buffers.
--   home_said                : a reading ends at the base exactly if the word leads there
--   room_held, room_short    : what the test of a room tells
--   marks_kept               : behind the marks the cells are as they were
--   numbers_written          : places with their numbers are the numbers noted along the word
--   word_narrow, word_written : the two outcomes of a member's word
--   query_refused, expressed : those of a query
-- Assumes nothing.
use mathlib.Core.Path.{◌≡◌, refl, sym, ◌∙◌, ap, subst}
use mathlib.Core.Logic.{⊎_elim, by_cases}
use mathlib.Core.Bool.{Bool, true, false, cond, ◌&&◌}
use mathlib.Core.Option.{Option as Known, none, some}
use mathlib.Core.List.{List, [], ◌∷◌, ◌++◌, map}
use Prim.Native.Nat.{ℕ, zero, suc, ◌+◌, ◌-◌, ◌*◌, ◌/◌, ◌≤◌, ◌<◌}
use native.Mathlib.Decide.{dec_lt}
use native.Mathlib.Omega.{arith}
use lib.Dec.{eqb, ltb}
use lib.IntN.{ℤ}
use lib.ListN.{length, take, drop, replicate, length-append}
use lib.Seq.{take_at, drop_at, drop-drop}
use borrow.Author.Tests.{ne_eqb, lt-ltb, le-ltb, ltb-true, ltb-false}
use Rattle.std.specs.Prelude.{⊤}
use Rattle.std.specs.declared.option.Option.{Option}
use Rattle.std.specs.declared.option.Option.TheVariants.{Some}
use Rattle.std.specs.declared.result.Result.{Result}
use Rattle.std.specs.declared.result.Result.TheVariants.{Ok, Err}
use Rattle.theory.specs.Words.{reduced}
use Rattle.theory.specs.Letters.{usual}
use Rattle.theory.specs.Refusals.{Refusal as FirstCause, TextCause, or_else, refused_if}
use Rattle.theory.specs.TableRefusals.{MemberCause, member_refusal}
use Rattle.theory.specs.Tables.{Cells, cell, is_accepted}
use Rattle.theory.specs.Basis.{expression_of}
use Rattle.theory.proofs.WordLaws.{by_test}
use Rattle.theory.proofs.RefusalLaws.{refusal_none}
use Rattle.theory.proofs.TableRefusalLaws.{member_refusal_first}
use Rattle.cells.specs.Filled.{filled}
use Rattle.refusals.specs.Given.{refusal_at, unless, unless_short}
use Rattle.refusals.specs.declared.Cause.{Cause}
use Rattle.refusals.specs.declared.Cause.TheVariants.{Output}
use Rattle.refusals.specs.declared.Refusal.{Refusal}
use Rattle.refusals.proofs.UnlessLaws.{unless_err}
use Rattle.words.specs.Reduction.{ReducedInto}
use Rattle.words.specs.declared.Reduced.{Reduced}
use Rattle.members.specs.Readings.{reading_as}
use Rattle.members.specs.Members.{query_word}
use Rattle.members.specs.Stages.{is_at_base}
use Rattle.members.specs.declared.Stop.{Stop}
use Rattle.members.proofs.AnswerLaws.{reading_home, fine, letters_left, cells_behind}
use Rattle.tables.proofs.LentLaws.{IsSound}
use Rattle.edges.specs.Edges.{marks_of}
use Rattle.expressions.specs.Places.{places_of, numbered, AllAtEdge}
use Rattle.expressions.specs.Parts.{is_home, notes_of, in_front, word_answer, word_out, marked_work, WordOutcome}
use Rattle.expressions.specs.Expressions.{is_inside, numbers_of, express_refusal, expressed_of, work_for, out_for, ExpressOutcome}
use Rattle.expressions.proofs.PlaceLaws.{places_at, places_noted, places_count}
use Rattle.expressions.proofs.WalkTurn.{home_end}

-- ── A reading ──

pub home_said : (n N : ℕ) (t w : List ℕ) {r : Result ℕ Stop} {b : Bool} → r ≡ reading_as n N t w → b ≡ is_at_base r → b ≡ is_home n N t w
unfolding reading_as is_home
home_said n N t w e f = f ∙ ap is_at_base e ∙ reading_home (cell n N t) 0 0 w

-- ── A room ──

module _ (cause : Cause) (needed room : ℕ) where
  pub room_held : {u : ⊤} → Ok u ≡ unless_short cause needed room → needed ≤ room
  room_held {u} e =
      by_test (ltb room needed)
      (λ b. absurd (let y : Ok u ≡ Err (refusal_at cause needed) = rw b at e in let z : ◌≡◌ {A = ℕ} 0 1 = cc in omega arith))
      (λ b. ltb-false room needed b)

  pub room_short : {r : Refusal} → Err r ≡ unless_short cause needed room → (room < needed) × (r ≡ refusal_at cause needed)
  room_short {r} e =
      by_test (ltb room needed) (λ b. let y : Err r ≡ Err (refusal_at cause needed) = rw b at e in (ltb-true room needed b, cc))
      (λ b. absurd (let y : Err r ≡ Ok (tt {0}) = rw b at e in let z : ◌≡◌ {A = ℕ} 0 1 = cc in omega arith))

-- ── Marks ──

two_more : (l : List ℕ) (a b : ℕ) → length (l ++ (a ∷ b ∷ [])) ≡ length l + 2
two_more l a b = length-append l (a ∷ b ∷ [])

marks_length : (c : Cells) (N : ℕ) (ys : List ℕ) (k m : ℕ) → length (marks_of c N ys k m) ≡ 2 * m
unfolding marks_of
marks_length c N ys k zero = refl
marks_length c N ys k (suc m) = two_more (marks_of c N ys k m) _ _ ∙ omega (arith, marks_length c N ys k m)

module _ (n N : ℕ) (t work : List ℕ) (marks : ℕ) {after : List ℕ} (e : after ≡ marks_of (cell n N t) N (usual n) marks marks ++ drop (2 * marks) work) where
  pub marks_kept : drop (2 * marks) after ≡ drop (2 * marks) work
  marks_kept =
      ap (drop (2 * marks)) e
      ∙ drop_at (marks_of (cell n N t) N (usual n) marks marks) (drop (2 * marks) work) (2 * marks) (marks_length (cell n N t) N (usual n) marks marks)

-- ── Numbers ──

module _ {n N : ℕ} {t : List ℕ} (S : IsSound n N t) (w : List ℕ) {crossed : ℕ} (out : List ℤ) {placed : List ℤ} (home : is_home n N t w ≡ true) (h : crossed ≡ length (places_of n N t w))
    (e : placed ≡ in_front (places_of n N t w) out) where
  first_places : take crossed placed ≡ places_of n N t w
  first_places =
      ap (take crossed) e ∙ take_at (places_of n N t w) (drop (length (places_of n N t w)) out) crossed (sym h)

  pub places_ready : AllAtEdge n N t (take crossed placed)
  places_ready = subst (AllAtEdge n N t) (sym first_places) (places_at S w 0 0 (home_end n N t w home))

  -- the numbers in the places' stead, and what stands behind them
  pub numbers_written : {numbers : List ℤ} → numbers ≡ map (numbered n N t) (take crossed placed) → numbers ++ drop crossed placed ≡ in_front (notes_of n N t w) out
  unfolding notes_of
  numbers_written f =
      ap (λ l. l ++ drop crossed placed) (f ∙ ap (map (numbered n N t)) first_places ∙ places_noted S w 0 0 (home_end n N t w home))
      ∙ ap (λ l. notes_of n N t w ++ l)
      (ap (drop crossed) e
      ∙ drop_at (places_of n N t w) (drop (length (places_of n N t w)) out) crossed (sym h)
      ∙ ap (λ k. drop k out) (places_count S w (home_end n N t w home)))

-- ── A word ──

module _ {n N : ℕ} {t : List ℕ} (w : List ℕ) where
  module _ (S : IsSound n N t) (home : is_home n N t w ≡ true) {crossed : ℕ} (h : crossed ≡ length (places_of n N t w)) where
    count_so : crossed ≡ length (notes_of n N t w)
    unfolding notes_of
    count_so = h ∙ places_count S w (home_end n N t w home)

    pub word_narrow : {marks : ℕ} {work : List ℕ} {out : List ℤ} {r : Refusal} → Err r ≡ unless_short Output crossed (length out) → WordOutcome n N t w marks work out (Err r) work out
    word_narrow {out = out} e =
        let a = room_short Output crossed (length out) e in
        let b = lt-ltb (length out) (length (notes_of n N t w)) (omega (arith, count_so, a.0)) in
        record { answer = ap Err (a.1 ∙ ap (refusal_at Output) count_so) ∙ rw (home, b); numbers = rw (home, b); cells = rw (home, b) }

    pub word_written : {marks : ℕ} {work : List ℕ} {out : List ℤ} {work' : List ℕ} {out' : List ℤ} {u : ⊤} → Ok u ≡ unless_short Output crossed (length out)
        → out' ≡ in_front (notes_of n N t w) out → work' ≡ marked_work n N t marks work → WordOutcome n N t w marks work out (Ok (Some crossed)) work' out'
    word_written {out = out} a e d =
        let b = le-ltb (length out) (length (notes_of n N t w)) (omega (arith, count_so, room_held Output crossed (length out) a)) in
        record { answer = ap (λ k. Ok (Some k)) count_so ∙ rw (home, b); numbers = e ∙ rw (home, b); cells = d ∙ rw (home, b) }

  -- the cells behind the marks are as they were
  pub word_kept : {marks : ℕ} {work : List ℕ} {out : List ℤ} {r : Result (Option ℕ) Refusal} {work' : List ℕ} {out' : List ℤ} → WordOutcome n N t w marks work out r work' out'
      → drop (2 * marks) work' ≡ drop (2 * marks) work
  word_kept {marks} {work} {out} W =
      ap (drop (2 * marks)) W.cells
      ∙ either (is_home n N t w) (ltb (length out) (length (notes_of n N t w)))
    where
      either : (a b : Bool) → drop (2 * marks) (cond a (cond b work (marked_work n N t marks work)) work) ≡ drop (2 * marks) work
      either true true = refl
      either true false = marks_kept n N t work marks refl
      either false b = refl

-- ── A query ──

-- none of 1 to 8 is 9
not_nine : (n N : ℕ) (t query : List ℕ) (room : ℕ) (f : FirstCause) → member_refusal n N t query room ≡ some f → eqb f.number 9 ≡ false
not_nine n N t query room f e =
    ne_eqb f.number 9
    (λ z. at f.number f.place z ((member_refusal_first n N t query room f.number f.place).0 e).applies)
  where
    at : (k p : ℕ) → k ≡ 9 → MemberCause n N t query room k p → ⊥
    at k p z a =
        ⊎_elim (λ x. subst (λ j. TextCause n false query j p) z x)
        (⊎_elim (λ x. omega (arith, x.0)) (⊎_elim (λ x. omega (arith, x.0)) (λ x. omega (arith, x.0)))) a

-- what holds where none of 1 to 8 applies
module _ (n N : ℕ) (t query : List ℕ) (room : ℕ) (e : member_refusal n N t query room ≡ none) where
  pub query_few : length query ≤ 1048576
  query_few =
      by_cases (dec_lt 1048576 (length query))
      (λ h. absurd (refusal_none n false query (fine n N t query room e).text 2 0 (refl, h))) (λ h. omega arith)

  pub halves : (2 * (length query / 2) ≤ length query) × (length query / 2 ≤ 1048576)
  halves = (omega arith, omega (arith, query_few))

module _ (n N : ℕ) (t query work : List ℕ) (out : List ℤ) where
  -- the answer and the buffers of a refusal known
  told : (o : Known FirstCause) {r : Result (Option ℕ) Refusal} {work' : List ℕ} {out' : List ℤ} → express_refusal n N t query (length work) (length out) ≡ o
      → r ≡ unless o (expressed_of n N t query) → work' ≡ work_for query work o → out' ≡ out_for n N t query out o → ExpressOutcome n N t query work out r work' out'
  told o e a b d =
      record {
        answer = a ∙ sym (ap (λ x. unless x (expressed_of n N t query)) e);
        cells = b ∙ sym (ap (work_for query work) e);
        numbers = d ∙ sym (ap (out_for n N t query out) e);
      }

  pub query_refused : {r : Refusal} → Err r ≡ unless (member_refusal n N t query (length work)) (tt {0}) → ExpressOutcome n N t query work out (Err r) work out
  unfolding express_refusal
  query_refused {r} e =
      let a = unless_err (member_refusal n N t query (length work)) (tt {0}) e in
      told (some a.0)
      (ap (λ o. or_else o (refused_if (is_inside n N t query && ltb (length out) (length (numbers_of n N t query))) 9 (length (numbers_of n N t query)))) a.1)
      (ap Err a.2)
      (sym (rw (not_nine n N t query (length work) a.0 a.1)))
      refl

  module _ (fit : member_refusal n N t query (length work) ≡ none) {r : Reduced} {after : List ℕ} (into : ReducedInto query work r after) where
    -- what 9 says
    late_is : express_refusal n N t query (length work) (length out) ≡ refused_if (is_inside n N t query && ltb (length out) (length (numbers_of n N t query))) 9 (length (numbers_of n N t query))
    unfolding express_refusal
    late_is = rw fit

    module _ {marks : ℕ} {said : Result (Option ℕ) Refusal} {left cells : List ℕ} {numbers : List ℤ} (few : 2 * marks ≤ length query)
        (W : WordOutcome n N t (take r.left after) marks after out said left numbers) (cleared : cells ≡ filled (length query) 0 left) where
      -- the needed cells are cleared, the later ones are as they were
      all_cleared : cells ≡ filled (length query) 0 work
      unfolding filled
      all_cleared = cleared ∙ ap (λ l. replicate (length query) 0 ++ l) (behind ∙ cells_behind n N t query work fit into)
        where
          split : length query ≡ 2 * marks + (length query - 2 * marks)
          split = omega arith

          behind : drop (length query) left ≡ drop (length query) after
          behind =
              ap (λ j. drop j left) split
              ∙ sym (drop-drop (length query - 2 * marks) (2 * marks) left)
              ∙ ap (drop (length query - 2 * marks)) (word_kept (take r.left after) W)
              ∙ drop-drop (length query - 2 * marks) (2 * marks) after
              ∙ ap (λ j. drop j after) (sym split)

      word : take r.left after ≡ reduced (query_word query)
      word = letters_left n N t query work fit into

      answer_is : said ≡ word_answer n N t (reduced (query_word query)) (length out)
      answer_is = W.answer ∙ ap (λ w. word_answer n N t w (length out)) word

      numbers_are : numbers ≡ word_out n N t (reduced (query_word query)) out
      numbers_are = W.numbers ∙ ap (λ w. word_out n N t w out) word

      pub expressed : ExpressOutcome n N t query work out said cells numbers
      unfolding is_home notes_of is_accepted numbers_of expression_of
      expressed =
          by_test (is_inside n N t query)
          (λ i. by_test (ltb (length out) (length (numbers_of n N t query)))
          (λ b. told (some (record { number = 9; place = length (numbers_of n N t query) })) (late_is ∙ rw (i, b)) (answer_is ∙ rw (i, b)) all_cleared (numbers_are ∙ rw (i, b)))
          (λ b. told none (late_is ∙ rw (i, b)) (answer_is ∙ rw (i, b)) all_cleared (numbers_are ∙ rw (i, b))))
          (λ i. told none (late_is ∙ rw i) (answer_is ∙ rw i) all_cleared (numbers_are ∙ rw i))
