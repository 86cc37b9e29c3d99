-- The computed refusals of functions on lent tables are the first causes that apply (`specs/TableRefusals`).
--   Decides C o    <-> o is the first of the causes C, or none where none applies; and a first cause has one number
--   decided_first  : o is number k at place p exactly if that is the first cause
--   decided_none   : o is none exactly if no cause applies
--   join           : the causes of earlier turns decide; where none of them applies, those of later turns do
--   only_at, only_if, only_either : the causes of one number, by their lowest place, by a test, of two tables
--   text_decides   : the causes of a text
--   else_none, unrefused, no_cell, text_alphabet : the parts of a computed refusal that is none
--   check_refusal_first, member_refusal_first, equal_refusal_first : the three functions, and `..-none` where none applies
-- Assumes nothing.
use mathlib.Core.Path.{◌≡◌, refl, sym, ◌∙◌, ap, subst}
use mathlib.Core.Logic.{◌⊎◌, inl, inr, ⊎_elim, by_cases, ◌↔◌}
use mathlib.Core.Bool.{Bool, true, false, not, ◌&&◌, true≢false}
use mathlib.Core.Option.{Option, none, some, some-injective}
use mathlib.Core.List.{List}
use Prim.Native.Nat.{ℕ, ◌*◌, ◌≤◌, ◌<◌}
use native.Mathlib.Decide.{ℕ_discrete, dec_lt}
use native.Mathlib.Omega.{arith}
use lib.Dec.{eqb, ltb, leb}
use lib.ListN.{length}
use borrow.Author.Tests.{ne_eqb, eqb-true, eqb-false, ltb-true, lt-ltb, leb-true, le-leb, not-true, not-false}
use Rattle.theory.specs.Letters.{usual}
use Rattle.theory.specs.Refusals.{Refusal, point_limit, Cause1, Cause6Lent, CauseShort, turn, First, Only, Join, TextCause, is_alphabet, or_else, refused_if, text_refusal}
use Rattle.theory.specs.Tables.{absent, cell}
use Rattle.theory.specs.Canonical.{faulty_cell}
use Rattle.theory.specs.TableRefusals.{
  Cause8,
  CheckCause,
  MemberCause,
  EqualCause,
  OtherAlphabet,
  FirstOfTwo,
  is_lent,
  at_cell,
  cell_refusal,
  check_refusal,
  member_refusal,
  equal_refusal,
}
use Rattle.theory.proofs.WordLaws.{by_test}
use Rattle.theory.proofs.RefusalLaws.{and_true, alphabet_in, in_alphabet, refusal_first, refusal_none, first_unique, text_turn}
use Rattle.theory.proofs.CanonicalLaws.{table_faulty_lowest, table_lowest_faulty}

-- ── Any causes ──

-- what is to be shown of a computed refusal
abbrev pub Verdict : (ℕ → ℕ → Type 0) → Option Refusal → Type 0
Verdict C none = (k p : ℕ) → C k p → ⊥
Verdict C (some r) = First C r.number r.place

pub record Decides (C : ℕ → ℕ → Type 0) (o : Option Refusal) : Type 0 where
  pub verdict : Verdict C o
  pub one : (k l p : ℕ) → First C k p → First C l p → k ≡ l

same_refusal : (r : Refusal) (k p : ℕ) → r.number ≡ k → r.place ≡ p → some r ≡ some (record { number = k; place = p })
same_refusal r k p a b = ap some (λ i. record { number = a i; place = b i })

neither_way : (a b : ℕ) → (a < b → ⊥) → (b < a → ⊥) → a ≡ b
neither_way a b x y = by_cases (dec_lt a b) (λ h. absurd (x h)) (λ h. by_cases (dec_lt b a) (λ j. absurd (y j)) (λ j. omega arith))

module _ {C : ℕ → ℕ → Type 0} where
  -- two first causes share their place
  first_place_lem : (k p l q : ℕ) → First C k p → First C l q → p ≡ q
  first_place_lem k p l q f g =
      neither_way p q (λ h. g.foremost k p (inr (turns, h)) f.applies)
      (λ h. f.foremost l q (inr (sym turns, h)) g.applies)
    where
      turns : turn k ≡ turn l
      turns =
          neither_way (turn k) (turn l) (λ h. g.foremost k p (inl h) f.applies)
          (λ h. f.foremost l q (inl h) g.applies)

  pub decided_first : {o : Option Refusal} → Decides C o → (k p : ℕ) → (o ≡ some (record { number = k; place = p })) ↔ First C k p
  decided_first {o} d k p = (λ e. subst (Verdict C) e d.verdict, back o d)
    where
      back : (o : Option Refusal) → Decides C o → First C k p → o ≡ some (record { number = k; place = p })
      back none d f = absurd (d.verdict k p f.applies)
      back (some r) d f = same_refusal r k p number place
        where
          place : r.place ≡ p
          place = first_place_lem r.number r.place k p d.verdict f

          number : r.number ≡ k
          number = d.one r.number k p (subst (First C r.number) place d.verdict) f

  pub decided_none : {o : Option Refusal} → Decides C o → (o ≡ none) ↔ ((k p : ℕ) → C k p → ⊥)
  decided_none {o} d = (λ e. subst (Verdict C) e d.verdict, back o d)
    where
      back : (o : Option Refusal) → Decides C o → ((k p : ℕ) → C k p → ⊥) → o ≡ none
      back none d h = refl
      back (some r) d h = absurd (h r.number r.place d.verdict.applies)

-- ── Causes of earlier and of later turns ──

module _ {A B : ℕ → ℕ → Type 0} (ordered : (k p l q : ℕ) → A k p → B l q → turn k < turn l) where
  -- where an earlier cause applies the first cause is one of them
  first_earlier : (r s : ℕ) → A r s → (k p : ℕ) → First (Join A B) k p → First A k p
  first_earlier r s a k p f =
      record {
        applies = ⊎_elim (λ x. x) (λ x. absurd (f.foremost r s (inl (ordered r s k p a x)) (inl a))) f.applies;
        foremost = λ l q b c. f.foremost l q b (inl c);
      }

  -- and where none does it is a later one
  first_later : ((k p : ℕ) → A k p → ⊥) → (k p : ℕ) → First (Join A B) k p → First B k p
  first_later clear k p f =
      record {
        applies = ⊎_elim (λ x. absurd (clear k p x)) (λ x. x) f.applies;
        foremost = λ l q b c. f.foremost l q b (inr c);
      }

  earlier_first : (k p : ℕ) → First A k p → First (Join A B) k p
  earlier_first k p f =
      record {
        applies = inl f.applies;
        foremost = λ l q b c.
            ⊎_elim (λ x. f.foremost l q b x)
            (λ x. let h = ordered k p l q f.applies x in ⊎_elim (λ g. omega arith) (λ g. omega arith) b) c;
      }

  later_first : ((k p : ℕ) → A k p → ⊥) → (k p : ℕ) → First B k p → First (Join A B) k p
  later_first clear k p f =
      record {
        applies = inr f.applies;
        foremost = λ l q b c. ⊎_elim (λ x. clear l q x) (λ x. f.foremost l q b x) c;
      }

  pub join : {a b : Option Refusal} → Decides A a → (((k p : ℕ) → A k p → ⊥) → Decides B b) → Decides (Join A B) (or_else a b)
  join {a} {b} d e = go a d
    where
      go : (a : Option Refusal) → Decides A a → Decides (Join A B) (or_else a b)
      go none d =
          record {
            verdict = later b (e d.verdict);
            one = λ k l p f g. (e d.verdict).one k l p (first_later d.verdict k p f) (first_later d.verdict l p g);
          }
        where
          later : (b : Option Refusal) → Decides B b → Verdict (Join A B) b
          later none h = λ k p c. ⊎_elim (λ x. d.verdict k p x) (λ x. h.verdict k p x) c
          later (some r) h = later_first d.verdict r.number r.place h.verdict
      go (some r) d =
          record {
            verdict = earlier_first r.number r.place d.verdict;
            one = λ k l p f g. d.one k l p (within k p f) (within l p g);
          }
        where
          within : (k p : ℕ) → First (Join A B) k p → First A k p
          within = first_earlier r.number r.place d.verdict.applies

-- ── Causes of one number ──

-- the lowest place that P has, or none
abbrev pub Least : (ℕ → Type 0) → Option ℕ → Type 0
Least P none = (p : ℕ) → P p → ⊥
Least P (some p) = P p × ((q : ℕ) → q < p → P q → ⊥)

-- a number at a place, if there is one
abbrev pub placed : ℕ → Option ℕ → Option Refusal
placed k none = none
placed k (some p) = some (record { number = k; place = p })

-- the causes of one number at their lowest place
pub only_at : (k : ℕ) {P : ℕ → Type 0} (o : Option ℕ) → Least P o → Decides (Only k P) (placed k o)
only_at k {P} o h = record { verdict = shown o h; one = λ l m p f g. f.applies.0 ∙ sym g.applies.0 }
  where
    shown : (o : Option ℕ) → Least P o → Verdict (Only k P) (placed k o)
    shown none h = λ l p c. h p c.1
    shown (some p) h =
        record {
          applies = (refl, h.0);
          foremost = λ l q b c.
              let t = ap turn c.0 in ⊎_elim (λ g. omega arith) (λ g. h.1 q g.1 c.1) b;
        }

-- a cause that has one place and a test
pub only_if : (k : ℕ) {P : ℕ → Type 0} (b : Bool) (p : ℕ) → (b ≡ true → P p) → ((q : ℕ) → P q → (b ≡ true) × (q ≡ p)) → Decides (Only k P) (refused_if b k p)
only_if k true p f g = only_at k (some p) (f refl, λ q h c. let e = (g q c).1 in omega arith)
only_if k false p f g = only_at k none (λ q c. true≢false (sym (g q c).0))

-- of two tables: the first's place, or the second's where the first has none
pub only_either : (k : ℕ) {P Q : ℕ → Type 0} (a b : Option ℕ) → Least P a → Least Q b → Decides (Only k (FirstOfTwo P Q)) (or_else (placed k a) (placed k b))
only_either k none none h g = only_at k none (λ p c. ⊎_elim (h p) (λ x. g p x.1) c)
only_either k none (some q) h g = only_at k (some q) (inr (h, g.0), λ p l c. ⊎_elim (h p) (λ x. g.1 p l x.1) c)
only_either k (some p) b h g = only_at k (some p) (inl h.0, λ q l c. ⊎_elim (h.1 q l) (λ x. x.0 p h.0) c)

-- ── Where nothing is computed ──

pub else_none : (a b : Option Refusal) → or_else a b ≡ none → (a ≡ none) × (b ≡ none)
else_none none b e = (refl, e)
else_none (some r) b e = let z : ◌≡◌ {A = ℕ} 0 1 = cc in absurd (omega arith)

pub unrefused : (b : Bool) (k p : ℕ) → refused_if b k p ≡ none → b ≡ false
unrefused true k p e = let z : ◌≡◌ {A = ℕ} 0 1 = cc in absurd (omega arith)
unrefused false k p e = refl

pub no_cell : (o : Option ℕ) → at_cell o ≡ none → o ≡ none
no_cell none e = refl
no_cell (some p) e = let z : ◌≡◌ {A = ℕ} 0 1 = cc in absurd (omega arith)

-- ── The single causes ──

pub text_decides : (n : ℕ) (lines : Bool) (text : List ℕ) → Decides (TextCause n lines text) (text_refusal n lines text)
text_decides n lines text =
    record {
      verdict = go (text_refusal n lines text) refl;
      one = λ k l p f g. (first_unique n lines text k p l p f g).0;
    }
  where
    go : (o : Option Refusal) → text_refusal n lines text ≡ o → Verdict (TextCause n lines text) o
    go none e = refusal_none n lines text e
    go (some r) e = refusal_first n lines text r e

pub alphabet_decides : (n : ℕ) → Decides (Only 1 (Cause1 n)) (refused_if (not (is_alphabet n)) 1 0)
alphabet_decides n =
    only_if 1 (not (is_alphabet n)) 0 (λ e. (refl, λ h. false_true (not-true _ e) (in_alphabet n h.0 h.1)))
    (λ q c. (by_test (is_alphabet n) (λ e. absurd (c.1 (alphabet_in n e))) (λ e. ap not e), c.0))
  where
    false_true : {b : Bool} → b ≡ false → b ≡ true → ⊥
    false_true e f = true≢false (sym f ∙ e)

-- what `is_lent` says of a table
pub lent_in : (n N cells : ℕ) → is_lent n N cells ≡ true → (1 ≤ N) × (N ≤ point_limit) × (N * (2 * n) ≤ cells)
unfolding is_lent
lent_in n N cells e =
    let h = and_true (not (eqb N 0)) (leb N point_limit && leb (N * (2 * n)) cells) e in
    let g = and_true (leb N point_limit) (leb (N * (2 * n)) cells) h.1 in
    let z : N ≡ 0 → ⊥ = eqb-false N 0 (not-true _ h.0) in
    (by_cases (ℕ_discrete N 0) (λ e. absurd (z e)) (λ e. omega arith), leb-true N point_limit g.0, leb-true (N * (2 * n)) cells g.1)

pub in_lent : (n N cells : ℕ) → 1 ≤ N → N ≤ point_limit → N * (2 * n) ≤ cells → is_lent n N cells ≡ true
unfolding is_lent
in_lent n N cells a b c = rw (ne_eqb N 0 (λ e. omega arith), le-leb N point_limit b, le-leb (N * (2 * n)) cells c)

lent_fails : (n N cells p : ℕ) → Cause6Lent n N cells p → is_lent n N cells ≡ true → ⊥
lent_fails n N cells p c e =
    let h = lent_in n N cells e in ⊎_elim (λ g. omega arith) (⊎_elim (λ g. omega arith) (λ g. omega arith)) c.1

fails_lent : (n N cells : ℕ) → is_lent n N cells ≡ false → Cause6Lent n N cells 0
fails_lent n N cells e = (
  refl,
  by_cases (ℕ_discrete N 0) inl
      (λ a. inr (by_cases (dec_lt point_limit N) inl
      (λ b. inr (by_cases (dec_lt cells (N * (2 * n))) (λ x. x)
      (λ c. absurd (true≢false (sym (in_lent n N cells (omega arith) (omega arith) (omega arith)) ∙ e))))))),
)

pub lent_decides : (n N cells : ℕ) → Decides (Only 6 (Cause6Lent n N cells)) (refused_if (not (is_lent n N cells)) 6 0)
lent_decides n N cells =
    only_if 6 (not (is_lent n N cells)) 0 (λ e. fails_lent n N cells (not-true _ e))
    (λ q c. (by_test (is_lent n N cells) (λ e. absurd (lent_fails n N cells q c e)) (λ e. ap not e), c.0))

pub short_decides : (needed room : ℕ) → Decides (Only 7 (CauseShort needed room)) (refused_if (ltb room needed) 7 needed)
short_decides needed room =
    only_if 7 (ltb room needed) needed (λ e. (refl, ltb-true room needed e)) (λ q c. (lt-ltb room needed c.1, c.0))

-- the lowest faulty cell is the lowest place of cause 8
cells_least : (n N : ℕ) (t : List ℕ) → N ≤ absent → Least (Cause8 n N t) (faulty_cell N (usual n) (cell n N t))
cells_least n N t small = go (faulty_cell N (usual n) (cell n N t)) refl
  where
    found : (p : ℕ) → Cause8 n N t p → faulty_cell N (usual n) (cell n N t) ≡ some p
    found p c = table_lowest_faulty n N t small c.0 c.1 c.2 ∙ ap some (sym c.3)

    go : (o : Option ℕ) → faulty_cell N (usual n) (cell n N t) ≡ o → Least (Cause8 n N t) o
    go none e = λ p c. let z : ◌≡◌ {A = ℕ} 0 1 = cc (found p c) in omega arith
    go (some p) e = (
      table_faulty_lowest n N t small p e,
      λ q h c. let z = some-injective q p (sym (found q c) ∙ e) in omega arith,
    )

pub cells_decide : (n N : ℕ) (t : List ℕ) → N ≤ absent → Decides (Only 8 (Cause8 n N t)) (cell_refusal n N t)
unfolding cell_refusal
cells_decide n N t small = go (faulty_cell N (usual n) (cell n N t)) (cells_least n N t small)
  where
    go : (o : Option ℕ) → Least (Cause8 n N t) o → Decides (Only 8 (Cause8 n N t)) (at_cell o)
    go none h = only_at 8 none h
    go (some p) h = only_at 8 (some p) h

-- where 6 does not apply there are no more points than marks
pub points_small : (n N cells : ℕ) → ((k p : ℕ) → Only 6 (Cause6Lent n N cells) k p → ⊥) → N ≤ absent
points_small n N cells clear = by_cases (dec_lt point_limit N) (λ h. absurd (clear 6 0 (refl, (refl, inr (inl h))))) (λ h. omega arith)

-- ── `check` ──

module _ (n N : ℕ) (t : List ℕ) where
  check_decides : Decides (CheckCause n N t) (check_refusal n N t)
  unfolding check_refusal
  check_decides =
      join (λ k p l q a b. ⊎_elim (λ x. omega (arith, ap turn a.0, ap turn x.0)) (λ x. omega (arith, ap turn a.0, ap turn x.0)) b)
      (alphabet_decides n)
      (λ _. join (λ k p l q a b. omega (arith, ap turn a.0, ap turn b.0)) (lent_decides n N (length t))
      (λ clear. cells_decide n N t (points_small n N (length t) clear)))

  -- a table is refused by a number at a place exactly if that is the first cause that applies
  pub check_refusal_first : (k p : ℕ) → (check_refusal n N t ≡ some (record { number = k; place = p })) ↔ First (CheckCause n N t) k p
  check_refusal_first = decided_first check_decides

  pub check_refusal_none : (check_refusal n N t ≡ none) ↔ ((k p : ℕ) → CheckCause n N t k p → ⊥)
  check_refusal_none = decided_none check_decides

-- ── `member` ──

module _ (n N : ℕ) (t query : List ℕ) (room : ℕ) where
  pub member_decides : Decides (MemberCause n N t query room) (member_refusal n N t query room)
  unfolding member_refusal
  member_decides =
      join (λ k p l q a b.
      let h = text_turn n false query k p a in
      ⊎_elim (λ x. omega (arith, ap turn x.0))
      (⊎_elim (λ x. omega (arith, ap turn x.0)) (λ x. omega (arith, ap turn x.0))) b)
      (text_decides n false query)
      (λ _. join (λ k p l q a b. ⊎_elim (λ x. omega (arith, ap turn a.0, ap turn x.0)) (λ x. omega (arith, ap turn a.0, ap turn x.0)) b)
      (lent_decides n N (length t))
      (λ clear. join (λ k p l q a b. omega (arith, ap turn a.0, ap turn b.0)) (short_decides (length query) room)
      (λ _. cells_decide n N t (points_small n N (length t) clear))))

  -- a query is refused by a number at a place exactly if that is the first cause that applies
  pub member_refusal_first : (k p : ℕ) → (member_refusal n N t query room ≡ some (record { number = k; place = p })) ↔ First (MemberCause n N t query room) k p
  member_refusal_first = decided_first member_decides

  pub member_refusal_none : (member_refusal n N t query room ≡ none) ↔ ((k p : ℕ) → MemberCause n N t query room k p → ⊥)
  member_refusal_none = decided_none member_decides

-- ── `equal` ──

both_or : (a b : Bool) {C : Type 0} → (a ≡ false → C) → (b ≡ false → C) → not (a && b) ≡ true → C
both_or true b f g e = g (not-true _ e)
both_or false b f g e = f refl

not_both : (a b : Bool) → (a ≡ true → b ≡ true → ⊥) → not (a && b) ≡ true
not_both true true h = absurd (h refl refl)
not_both true false h = refl
not_both false b h = refl

module _ (n N : ℕ) (t : List ℕ) (m M : ℕ) (s : List ℕ) where
  alphabets_decide : Decides (Only 1 (λ p. Cause1 n p ⊎ OtherAlphabet n m p)) (refused_if (not (is_alphabet n && eqb m n)) 1 0)
  alphabets_decide =
      only_if 1 (not (is_alphabet n && eqb m n)) 0
      (both_or (is_alphabet n) (eqb m n) (λ e. inl (refl, λ h. true≢false (sym (in_alphabet n h.0 h.1) ∙ e))) (λ e. inr (refl, eqb-false m n e)))
      (λ q c. (
        not_both (is_alphabet n) (eqb m n) (λ a b. ⊎_elim (λ x. x.1 (alphabet_in n a)) (λ x. x.1 (eqb-true m n b)) c),
        ⊎_elim (λ x. x.0) (λ x. x.0) c,
      ))

  lents_decide : Decides (Only 6 (λ p. Cause6Lent n N (length t) p ⊎ Cause6Lent m M (length s) p)) (refused_if (not (is_lent n N (length t) && is_lent m M (length s))) 6 0)
  lents_decide =
      only_if 6 (not (is_lent n N (length t) && is_lent m M (length s))) 0
      (both_or (is_lent n N (length t)) (is_lent m M (length s)) (λ e. inl (fails_lent n N (length t) e)) (λ e. inr (fails_lent m M (length s) e)))
      (λ q c. (
        not_both (is_lent n N (length t)) (is_lent m M (length s))
            (λ a b. ⊎_elim (λ x. lent_fails n N (length t) q x a) (λ x. lent_fails m M (length s) q x b) c),
        ⊎_elim (λ x. x.0) (λ x. x.0) c,
      ))

  tables_decide : N ≤ absent → M ≤ absent → Decides (Only 8 (FirstOfTwo (Cause8 n N t) (Cause8 m M s))) (or_else (cell_refusal n N t) (cell_refusal m M s))
  unfolding cell_refusal
  tables_decide hN hM =
      go (faulty_cell N (usual n) (cell n N t)) (faulty_cell M (usual m) (cell m M s)) (cells_least n N t hN) (cells_least m M s hM)
    where
      go : (a b : Option ℕ) → Least (Cause8 n N t) a → Least (Cause8 m M s) b → Decides (Only 8 (FirstOfTwo (Cause8 n N t) (Cause8 m M s))) (or_else (at_cell a) (at_cell b))
      go none none h g = only_either 8 none none h g
      go none (some q) h g = only_either 8 none (some q) h g
      go (some p) none h g = only_either 8 (some p) none h g
      go (some p) (some q) h g = only_either 8 (some p) (some q) h g

  equal_decides : Decides (EqualCause n N t m M s) (equal_refusal n N t m M s)
  unfolding equal_refusal
  equal_decides =
      join (λ k p l q a b. ⊎_elim (λ x. omega (arith, ap turn a.0, ap turn x.0)) (λ x. omega (arith, ap turn a.0, ap turn x.0)) b)
      alphabets_decide
      (λ _. join (λ k p l q a b. omega (arith, ap turn a.0, ap turn b.0)) lents_decide
      (λ clear. tables_decide (points_small n N (length t) (λ k p c. clear k p (c.0, inl c.1))) (points_small m M (length s) (λ k p c. clear k p (c.0, inr c.1)))))

  -- two tables are refused by a number at a place exactly if that is the first cause that applies
  pub equal_refusal_first : (k p : ℕ) → (equal_refusal n N t m M s ≡ some (record { number = k; place = p })) ↔ First (EqualCause n N t m M s) k p
  equal_refusal_first = decided_first equal_decides

  pub equal_refusal_none : (equal_refusal n N t m M s ≡ none) ↔ ((k p : ℕ) → EqualCause n N t m M s k p → ⊥)
  equal_refusal_none = decided_none equal_decides

-- a text that is not refused has an alphabet
pub text_alphabet : (n : ℕ) (lines : Bool) (text : List ℕ) → text_refusal n lines text ≡ none → is_alphabet n ≡ true
unfolding text_refusal
text_alphabet n lines text e = not-false _ (unrefused (not (is_alphabet n)) 1 0 (else_none _ _ e).0)
