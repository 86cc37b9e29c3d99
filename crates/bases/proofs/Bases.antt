-- What a caller learns from an outcome of `basis` (document 01). The written words are those of the bytes written, words_of (take bytes out').
--   Expresses ws ks q      <-> ks names words of ws or their inverses, none beside its own inverse, and their product reduces to q
--   refused_by_first_cause  : a table is refused by a cause at a place exactly if that is the first that applies
--   every_table_written     : where no cause applies a basis is written
--   written_canonical       : a basis is written of a canonical table only, over 1 to 26 generators; written_lent : with all its cells
--   written_text            : the bytes written are the basis as a list text, and what stands behind them is as it was
--   written_words           : its words are the basis words, and are as many as is said
--   written_list            : it is a list over the same generators, refused by none but 2, where it is too long
--   written_basis_generates : the written words generate exactly what the table accepts
--   written_basis_free      : each accepted word has one product of written words and inverses with none beside its own inverse
--   written_basis_outside   : a word that is not accepted has no product, tidy or not
--   written_basis_empty     : the empty word has the empty product, and no other
--   written_basis_fewest    : no list of fewer words generates the same
--   written_basis_rank      : there are as many words as the rank
--   written_basis_of_list   : of a list's table, the written words generate the list's subgroup
-- Assumes nothing.
use mathlib.Core.Path.{◌≡◌, refl, sym, ◌∙◌, ap, subst}
use mathlib.Core.Logic.{◌↔◌}
use mathlib.Core.Bool.{true}
use mathlib.Core.Option.{none, some}
use mathlib.Core.List.{List, [], ◌++◌}
use Prim.Native.Nat.{ℕ, ◌*◌, ◌≤◌, ◌<◌}
use native.Mathlib.Omega.{arith}
use Rattle.std.specs.declared.result.Result.{Result}
use Rattle.std.specs.declared.result.Result.TheVariants.{Ok, Err}
use lib.IntN.{ℤ}
use lib.ListN.{length, take, drop}
use lib.Seq.{take_at, drop_at}
use Rattle.theory.specs.Words.{◌≈◌, product, AllNames, Tidy, SameSubgroup}
use Rattle.theory.specs.Letters.{usual, words_of}
use Rattle.theory.specs.Refusals.{text_limit, First, text_refusal}
use Rattle.theory.specs.Tables.{cell, Accepts}
use Rattle.theory.specs.Canonical.{Canonical}
use Rattle.theory.specs.Basis.{expression_of, rank_of}
use Rattle.theory.specs.Subgroups.{AcceptsExactly, TableOf}
use Rattle.theory.proofs.TableRefusalLaws.{else_none}
use Rattle.theory.proofs.PathLaws.{Setting}
use Rattle.theory.proofs.Main.{
  expression_reduces,
  express_unique,
  no_list_of_fewer,
  rank_counts_the_basis,
  empty_word_expressed,
}
use Rattle.theory.proofs.ExpressionLaws.{basis_generates, basis_accepts}
use Rattle.theory.proofs.ListTexts.{words_of_text, text_fine, text_long, basis_below}
use Rattle.refusals.specs.Given.{number_of, refusal_at, unless}
use Rattle.refusals.specs.declared.Cause.{Cause}
use Rattle.refusals.specs.declared.Refusal.{Refusal}
use Rattle.refusals.proofs.UnlessLaws.{unless_ok}
use Rattle.lists.specs.declared.TextSize.{TextSize}
use Rattle.tables.proofs.LentLaws.{IsSound, sound_setting, lent_alphabet}
use Rattle.bases.specs.Bases.{basis_words, basis_text, BasisCause, early_refusal, basis_refusal, basis_size, out_for, BasisOutcome}
use Rattle.bases.proofs.AnswerLaws.{early_fine, early_else, answered_first, basis_refusal_first, basis_refusal_none, basis_numbered}

pub record Expresses (ws : List (List ℕ)) (ks : List ℤ) (q : List ℕ) : Type 0 where
  pub named : AllNames (length ws) ks
  pub tidy : Tidy ks
  pub reduces : product ws ks ≈ q

-- ── Refusals ──

module _ (n N : ℕ) (t work out : List ℕ) (r : Result TextSize Refusal) (work' out' : List ℕ) (h : BasisOutcome n N t work out r work' out') where
  pub refused_by_first_cause : (cause : Cause) (p : ℕ)
      → (r ≡ Err (refusal_at cause p)) ↔ First (BasisCause n N t (length work) (length out)) (number_of cause) p
  refused_by_first_cause =
      answered_first (BasisCause n N t (length work) (length out)) (basis_refusal n N t (length work) (length out)) (basis_size n N t)
      (basis_refusal_first n N t (length work) (length out)) (basis_numbered n N t (length work) (length out)) h.answer

  pub every_table_written : ((k p : ℕ) → BasisCause n N t (length work) (length out) k p → ⊥)
      → (words : ℕ) × (bytes : ℕ) × (r ≡ Ok (record { words = words; bytes = bytes }))
  every_table_written f = (
    length (basis_words n N t),
    length (basis_text n N t),
    h.answer ∙ ap (λ o. unless o (basis_size n N t)) ((basis_refusal_none n N t (length work) (length out)).1 f),
  )

-- ── What is written ──

module _ (n N : ℕ) (t work out : List ℕ) (words bytes : ℕ) (work' out' : List ℕ)
    (h : BasisOutcome n N t work out (Ok (record { words = words; bytes = bytes })) work' out') where
  -- nothing is refused, and the sizes are those of the basis
  answered : (basis_refusal n N t (length work) (length out) ≡ none) × (words ≡ length (basis_words n N t)) × (bytes ≡ length (basis_text n N t))
  answered =
      let a = unless_ok (basis_refusal n N t (length work) (length out)) (basis_size n N t) h.answer in
      (a.0, ap (λ (s : TextSize). s.words) a.1, ap (λ (s : TextSize). s.bytes) a.1)

  is_sound : IsSound n N t
  unfolding basis_refusal
  is_sound =
      (early_fine n N t (length work)
      (else_none (early_refusal n N t (length work) none) _ (sym (early_else n N t (length work) _) ∙ answered.0)).0).0

  pub written_canonical : (1 ≤ n) × (n ≤ 26) × (0 < N) × Canonical N (usual n) (cell n N t)
  written_canonical = (is_sound.lent.lettered, is_sound.lent.letters, is_sound.lent.based, is_sound.canonical)

  -- the table has its N × 2n cells
  pub written_lent : N * (2 * n) ≤ length t
  written_lent = is_sound.lent.cells

  setting : Setting (cell n N t) N (usual n)
  setting = sound_setting is_sound

  pub written_text : (take bytes out' ≡ basis_text n N t) × (drop bytes out' ≡ drop bytes out)
  written_text =
      let e : out' ≡ basis_text n N t ++ drop (length (basis_text n N t)) out =
      h.text ∙ ap (out_for (basis_text n N t) out) answered.0 in (
        ap (take bytes) e ∙ take_at (basis_text n N t) (drop (length (basis_text n N t)) out) bytes (sym answered.2),
        ap (drop bytes) e
            ∙ drop_at (basis_text n N t) (drop (length (basis_text n N t)) out) bytes (sym answered.2)
            ∙ ap (λ k. drop k out) (sym answered.2),
      )

  pub written_words : (words_of (take bytes out') ≡ basis_words n N t) × (length (words_of (take bytes out')) ≡ words)
  unfolding basis_text
  written_words =
      let m = written_canonical.1 in
      let e : words_of (take bytes out') ≡ basis_words n N t =
      ap words_of written_text.0 ∙ words_of_text (2 * n) (basis_words n N t) (omega arith) (basis_below n N t setting) in
      (e, ap length e ∙ sym answered.1)

  pub written_list : (bytes ≤ text_limit → text_refusal n true (take bytes out') ≡ none)
      × (text_limit < bytes → text_refusal n true (take bytes out') ≡ some (record { number = 2; place = 0 }))
  unfolding basis_text
  written_list = (
    λ b. ap (text_refusal n true) written_text.0
        ∙ text_fine n (basis_words n N t) (lent_alphabet is_sound.lent) (basis_below n N t setting) (omega (arith, b, answered.2)),
    λ b. ap (text_refusal n true) written_text.0
        ∙ text_long n (basis_words n N t) (lent_alphabet is_sound.lent) (omega (arith, b, answered.2)),
  )

  -- ── A free basis ──

  pub written_basis_generates : AcceptsExactly (cell n N t) (words_of (take bytes out'))
  written_basis_generates =
      subst (AcceptsExactly (cell n N t)) (sym written_words.0) (basis_accepts setting, basis_generates setting)

  -- the table is that of the written words
  pub written_basis_table : TableOf n N t (words_of (take bytes out'))
  written_basis_table =
      let c = written_canonical in record { based = c.2; canonical = c.3; accepts = written_basis_generates }

  -- the one product of an accepted word
  abbrev express : List ℕ → List ℤ
  express q = expression_of (cell n N t) N (usual n) q

  expressed : (q : List ℕ) → Accepts (cell n N t) q → Expresses (words_of (take bytes out')) (express q) q
  expressed q a =
      let e = expression_reduces written_basis_table q (written_basis_generates.1 q a) in
      subst (λ ws. Expresses ws (express q) q) (sym written_words.0) (record { named = e.1; tidy = e.0; reduces = e.2 })

  only : (ks : List ℤ) (q : List ℕ) → Expresses (words_of (take bytes out')) ks q → ks ≡ express q
  only ks q x =
      let y = subst (λ ws. Expresses ws ks q) written_words.0 x in
      express_unique written_basis_table ks q y.named y.tidy y.reduces

  pub written_basis_free : (q : List ℕ) → Accepts (cell n N t) q
      → (ks : List ℤ)
      × Expresses (words_of (take bytes out')) ks q
      × ((js : List ℤ) → Expresses (words_of (take bytes out')) js q → js ≡ ks)
  written_basis_free q a = (express q, expressed q a, λ js x. only js q x)

  pub written_basis_outside : (q : List ℕ) → (Accepts (cell n N t) q → ⊥) → (ks : List ℤ)
      → AllNames (length (words_of (take bytes out'))) ks → product (words_of (take bytes out')) ks ≈ q → ⊥
  written_basis_outside q f ks a e = f (written_basis_generates.0 q (record { numbers = ks; listed = a; reduces = e }))

  pub written_basis_empty : Expresses (words_of (take bytes out')) [] [] × ((ks : List ℤ) → Expresses (words_of (take bytes out')) ks [] → ks ≡ [])
  unfolding product
  written_basis_empty = (record { named = tt; tidy = tt; reduces = refl }, λ ks x. only ks [] x ∙ empty_word_expressed n N t)

  pub written_basis_rank : words ≡ rank_of (cell n N t) N (usual n)
  written_basis_rank = answered.1 ∙ rank_counts_the_basis written_basis_table

  pub written_basis_of_list : (us : List (List ℕ)) → TableOf n N t us → SameSubgroup (words_of (take bytes out')) us
  written_basis_of_list us T =
      record {
        onward = λ q m. T.accepts.1 q (written_basis_generates.0 q m);
        back = λ q m. written_basis_generates.1 q (T.accepts.0 q m);
      }

  pub written_basis_fewest : (us : List (List ℕ)) → AcceptsExactly (cell n N t) us → words ≤ length us
  written_basis_fewest us a =
      let T : TableOf n N t us = record { based = written_canonical.2; canonical = written_canonical.3; accepts = a } in
      omega (arith, answered.1, no_list_of_fewer T us (record { onward = λ q m. m; back = λ q m. m }))
