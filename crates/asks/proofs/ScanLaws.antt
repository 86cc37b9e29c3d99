-- The first refusal of a list and a query, from those of each.
--   first_of        == of two refusals the first text's, unless the second's stands before it in the order
--   of_both        : so those of a list and of a query give that of both
--   texts_fine     : where that is none, both texts are fine
--   list_fine, query_fine, query_before, list_before : the answers of `scan_both`
-- Assumes nothing.
use mathlib.Core.Path.{◌≡◌, refl, sym, ◌∙◌, ap}
use mathlib.Core.Logic.{◌⊎◌, inl, inr, ⊎_elim}
use mathlib.Core.Bool.{Bool, true, false, cond, not, ◌&&◌, ◌||◌}
use mathlib.Core.Option.{Option, none, some}
use mathlib.Core.List.{List}
use Prim.Native.Nat.{ℕ, ◌*◌, ◌≤◌, ◌<◌}
use native.Mathlib.Omega.{arith}
use lib.Dec.{eqb, ltb}
use lib.ListN.{length}
use borrow.Author.Tests.{lt-ltb, le-ltb}
use Rattle.std.specs.Prelude.{⊤}
use Rattle.std.specs.declared.result.Result.{Result}
use Rattle.std.specs.declared.result.Result.TheVariants.{Ok, Err}
use Rattle.theory.specs.Letters.{is_letter, letter_of, line_end}
use Rattle.theory.specs.Refusals.{
  Refusal as FirstCause,
  text_limit,
  turn,
  is_alphabet,
  byte_refusal,
  bytes_refusal,
  is_unended,
  or_else,
  refused_if,
  text_refusal,
}
use Rattle.theory.proofs.RefusalLaws.{Scanned as ScannedFrom, scanned, refusal_first}
use Rattle.refusals.specs.Given.{number_of, given, unless}
use Rattle.refusals.specs.declared.Refusal.{Refusal}
use Rattle.refusals.proofs.UnlessLaws.{unless_ok, unless_err, err_unless}
use Rattle.refusals.proofs.NumberLaws.{numbered_text}
use Rattle.asks.specs.Causes.{texts_refusal}

-- ── The bytes ──

-- a number that a byte draws is 0, 3 or 4
pub draws : (n : ℕ) (lines : Bool) (b k : ℕ) → byte_refusal n lines b ≡ k → (k ≡ 0 → ⊥) → (k ≡ 3) ⊎ (k ≡ 4)
unfolding byte_refusal
draws n lines b k e ne = go (is_letter b) (ltb (letter_of b) (2 * n)) (lines && eqb b line_end) e
  where
    go : (l i a : Bool) → cond l (cond i 0 4) (cond a 0 3) ≡ k → (k ≡ 3) ⊎ (k ≡ 4)
    go true true a q = absurd (ne (sym q))
    go true false a q = inr (sym q)
    go false i true q = absurd (ne (sym q))
    go false i false q = inl (sym q)

-- a refusal of bytes stands at the third place of the order
abbrev pub Third : Option FirstCause → Type 0
Third o = (r : FirstCause) → o ≡ some r → (r.number ≡ 3) ⊎ (r.number ≡ 4)

pub bytes_third : (n : ℕ) (lines : Bool) (text : List ℕ) → Third (bytes_refusal n lines 0 text)
bytes_third n lines text r e = go (bytes_refusal n lines 0 text) (scanned n lines 0 text) e
  where
    go : (o : Option FirstCause) → ScannedFrom n lines 0 text o → o ≡ some r → (r.number ≡ 3) ⊎ (r.number ≡ 4)
    go none s q = absurd (let z : ◌≡◌ {A = ℕ} 0 1 = cc in omega arith)
    go (some c) s q =
        let same : c ≡ r = cc q in
        let k = ap (λ (x : FirstCause). x.number) same in
        draws n lines _ r.number (s.2.1 ∙ k) (λ z. s.3 (k ∙ z))

third : (r : FirstCause) → Third (some r) → turn r.number ≡ 3
third r h = ⊎_elim (λ e. ap turn e) (λ e. ap turn e) (h r refl)

-- a refusal that code holds tells its number
number_is : (n : ℕ) (lines : Bool) (text : List ℕ) {r : Refusal} (x : (c : FirstCause) × (text_refusal n lines text ≡ some c) × (r ≡ given c))
    → number_of r.cause ≡ x.0.number
number_is n lines text x =
    ap (λ (q : Refusal). number_of q.cause) x.2
    ∙ numbered_text n lines text x.0.number x.0.place (refusal_first n lines text x.0 x.1).applies

-- ── Of two texts ──

abbrev pub first_of : Option FirstCause → Option FirstCause → Option FirstCause
first_of none b = b
first_of (some a) none = some a
first_of (some a) (some b) = cond (ltb (turn b.number) (turn a.number)) (some b) (some a)

-- 1 of both, 2, 3/4, 5 of the first
stages : (a l q u : Bool) (x y : Option FirstCause) (k : ℕ) → Third x → Third y
    → first_of (or_else (refused_if a 1 0) (or_else (refused_if l 2 0) (or_else x (refused_if u 5 k))))
    (or_else (refused_if a 1 0) (or_else (refused_if q 2 0) (or_else y none)))
    ≡ or_else (refused_if a 1 0) (or_else (refused_if (l || q) 2 0) (or_else (or_else x y) (refused_if u 5 k)))
stages true l q u x y k h g = refl
stages false true true u x y k h g = refl
stages false true false u x none k h g = refl
stages false true false u x (some s) k h g = ap (λ t. cond (ltb t 2) (some s) (some (record { number = 2; place = 0 }))) (third s g)
stages false false true true none y k h g = refl
stages false false true false none y k h g = refl
stages false false true u (some r) y k h g = ap (λ t. cond (ltb 2 t) (some (record { number = 2; place = 0 })) (some r)) (third r h)
stages false false false true none none k h g = refl
stages false false false false none none k h g = refl
stages false false false true none (some s) k h g =
    ap (λ t. cond (ltb t 5) (some s) (some (record { number = 5; place = k }))) (third s g)
stages false false false false none (some s) k h g = refl
stages false false false u (some r) none k h g = refl
stages false false false u (some r) (some s) k h g =
    ap (λ t. cond (ltb t (turn r.number)) (some s) (some r)) (third s g) ∙ ap (λ t. cond (ltb 3 t) (some s) (some r)) (third r h)

module _ (n : ℕ) (list query : List ℕ) where
  of_both : first_of (text_refusal n true list) (text_refusal n false query) ≡ texts_refusal n list query
  unfolding text_refusal texts_refusal
  of_both =
      stages (not (is_alphabet n)) (ltb text_limit (length list)) (ltb text_limit (length query)) (is_unended list)
      (bytes_refusal n true 0 list) (bytes_refusal n false 0 query) (length list)
      (bytes_third n true list) (bytes_third n false query)

  pub texts_fine : texts_refusal n list query ≡ none → (text_refusal n true list ≡ none) × (text_refusal n false query ≡ none)
  texts_fine e = go (text_refusal n true list) (text_refusal n false query) (of_both ∙ e)
    where
      go : (a b : Option FirstCause) → first_of a b ≡ none → (a ≡ none) × (b ≡ none)
      go none b q = (refl, q)
      go (some c) none q = absurd (let z : ◌≡◌ {A = ℕ} 0 1 = cc in omega arith)
      go (some c) (some d) q = absurd (picked (ltb (turn d.number) (turn c.number)) q)
        where
          picked : (t : Bool) → cond t (some d) (some c) ≡ none → ⊥
          picked true p = let z : ◌≡◌ {A = ℕ} 0 1 = cc in omega arith
          picked false p = let z : ◌≡◌ {A = ℕ} 0 1 = cc in omega arith

  -- ── The answers ──

  abbrev of_list : Option FirstCause
  of_list = text_refusal n true list

  abbrev of_query : Option FirstCause
  of_query = text_refusal n false query

  abbrev of_texts : Option FirstCause
  of_texts = texts_refusal n list query

  pub list_fine : {u : ⊤} {x : Result ⊤ Refusal} → Ok u ≡ unless of_list (tt {0}) → x ≡ unless of_query (tt {0}) → x ≡ unless of_texts (tt {0})
  list_fine e f =
      f ∙ ap (λ o. unless o (tt {0})) (sym (ap (λ o. first_of o of_query) (unless_ok of_list (tt {0}) e).0) ∙ of_both)

  module _ {a : Refusal} (e : Err a ≡ unless of_list (tt {0})) where
    first : (c : FirstCause) × (of_list ≡ some c) × (a ≡ given c)
    first = unless_err of_list (tt {0}) e

    -- of both, where the list has one
    some_first : of_texts ≡ first_of (some first.0) of_query
    some_first = sym of_both ∙ ap (λ o. first_of o of_query) first.1

    pub query_fine : {u : ⊤} → Ok u ≡ unless of_query (tt {0}) → Err a ≡ unless of_texts (tt {0})
    query_fine f =
        ap Err first.2
        ∙ err_unless of_texts (tt {0}) (some_first ∙ ap (first_of (some first.0)) (unless_ok of_query (tt {0}) f).0)

    module _ {b : Refusal} (f : Err b ≡ unless of_query (tt {0})) where
      second : (d : FirstCause) × (of_query ≡ some d) × (b ≡ given d)
      second = unless_err of_query (tt {0}) f

      above : number_of a.cause ≡ first.0.number
      above = number_is n true list first

      below : number_of b.cause ≡ second.0.number
      below = number_is n false query second

      -- both have one: the turns tell which is given
      picked : (t : Bool) → ltb (turn (number_of b.cause)) (turn (number_of a.cause)) ≡ t → of_texts ≡ cond t (some second.0) (some first.0)
      picked t l =
          some_first
          ∙ ap (first_of (some first.0)) second.1
          ∙ ap (λ u. cond u (some second.0) (some first.0)) (sym (λ i. ltb (turn (below i)) (turn (above i))) ∙ l)

      pub query_before : turn (number_of b.cause) < turn (number_of a.cause) → Err b ≡ unless of_texts (tt {0})
      query_before l = ap Err second.2 ∙ err_unless of_texts (tt {0}) (picked true (lt-ltb _ _ l))

      pub list_before : turn (number_of a.cause) ≤ turn (number_of b.cause) → Err a ≡ unless of_texts (tt {0})
      list_before l = ap Err first.2 ∙ err_unless of_texts (tt {0}) (picked false (le-ltb _ _ l))
