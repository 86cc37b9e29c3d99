-- What each step of loading finds (`specs/Loads`) is the least cause of its step, or clears it (`FirstCauses`).
--   stand_next, words_stand_one : numbers from one place on, compared
--   Three, from_three, to_three : the kind, n and a count, and the numbers behind them
--   kind-.., n-.., count-.., points-.. : the steps, in the files' order (`TableSteps` and `ListSteps` have the others)
-- Assumes nothing.
use mathlib.Core.Path.{◌≡◌, refl, sym, ◌∙◌, ap, subst}
use mathlib.Core.Logic.{◌⊎◌, inr, ⊎_elim}
use mathlib.Core.Bool.{true, false, not, true≢false}
use mathlib.Core.Option.{none, some}
use mathlib.Core.List.{List, [], ◌∷◌, ◌++◌}
use Prim.Native.Nat.{ℕ, ◌≤◌}
use native.Mathlib.Omega.{arith}
use lib.ListN.{length}
use Rattle.theory.specs.Files.{word_numbers}
use Rattle.theory.specs.Refusals.{is_alphabet, Cause6Lent, Only, refused_if}
use Rattle.theory.specs.TableRefusals.{is_lent}
use Rattle.theory.proofs.RefusalLaws.{alphabet_in, in_alphabet}
use Rattle.theory.proofs.TableRefusalLaws.{Verdict, lent_decides}
use Rattle.runs.specs.Runs.{number_at, behind}
use Rattle.loads.specs.Causes.{kind_missing, kind_other, n_missing, n_beyond, count_missing, points_wrong}
use Rattle.loads.proofs.StandLaws.{Stand, end_from, same_number, no_number, starts_of_stand, missing_of, stand_front, stand_back, stand_one}
use Rattle.loads.proofs.Events.{Upon}
use Rattle.loads.proofs.FirstCauses.{AtKind, no_kind, other_kind, AtN, no_n, bad_n, AtCount, no_count, bad_points, Clear, clear_next, clear_none, Least}

-- ── Numbers from one place on ──

-- the first number is the one that stands there
pub stand_next : (file : List ℕ) (p : ℕ) {x y : ℕ} (xs : List ℕ) → number_at file p ≡ some x → Stand file p (y ∷ xs) → (y ≡ x) × Stand file (behind p x) xs
stand_next file p xs e s =
    let z = same_number file p s.0 e in
    (z, subst (λ y. Stand file (behind p y) xs) z s.1)

pub words_stand_one : (file : List ℕ) (p : ℕ) (ws us : List (List ℕ)) → length ws ≡ length us → Stand file p (word_numbers ws)
    → Stand file p (word_numbers us) → ws ≡ us
unfolding word_numbers
words_stand_one file p [] [] e h k = refl
words_stand_one file p [] (u ∷ us) e h k = absurd (omega (arith, e))
words_stand_one file p (w ∷ ws) [] e h k = absurd (omega (arith, e))
words_stand_one file p (w ∷ ws) (u ∷ us) e h k =
    let z = stand_next file p (w ++ word_numbers ws) k.0 h in
    let q : ℕ = behind p (length u) in
    let y = stand_one file q w u z.0 (stand_front file q w (word_numbers ws) z.1) (stand_front file q u (word_numbers us) k.1) in
    ap (λ w. w ∷ ws) y
    ∙ ap (λ l. u ∷ l) (words_stand_one file (end_from q u) ws us (omega (arith, e))
    (subst (λ w. Stand file (end_from q w) (word_numbers ws)) y (stand_back file q w (word_numbers ws) z.1))
    (stand_back file q u (word_numbers us) k.1))

-- the place behind three numbers
abbrev pub third : ℕ → ℕ → ℕ → ℕ
third kind n N = behind (behind (behind 0 kind) n) N

-- three numbers that stand, and what is behind them
pub record Three (file : List ℕ) (kind n N : ℕ) : Type 0 where
  pub first : number_at file 0 ≡ some kind
  pub second : number_at file (behind 0 kind) ≡ some n
  pub last : number_at file (behind (behind 0 kind) n) ≡ some N

pub from_three : {file : List ℕ} {kind n N : ℕ} → Three file kind n N → (c m M : ℕ) (xs : List ℕ) → Stand file 0 (c ∷ m ∷ M ∷ xs)
    → (c ≡ kind) × (m ≡ n) × (M ≡ N) × Stand file (third kind n N) xs
from_three {file} {kind} {n} {N} h c m M xs s =
    let a = stand_next file 0 (m ∷ M ∷ xs) h.first s in
    let b = stand_next file (behind 0 kind) (M ∷ xs) h.second a.1 in
    let d = stand_next file (behind (behind 0 kind) n) xs h.last b.1 in
    (a.0, b.0, d.0, d.1)

pub to_three : {file : List ℕ} {kind n N : ℕ} → Three file kind n N → (xs : List ℕ) → Stand file (third kind n N) xs → Stand file 0 (kind ∷ n ∷ N ∷ xs)
to_three h xs s = (h.first, (h.second, (h.last, s)))

module _ (file : List ℕ) (cells space : ℕ) where
  abbrev pub Cleared : ℕ → Type 0
  Cleared = Clear file cells space

  abbrev pub Leasts : ℕ → ℕ → ℕ → Type 0
  Leasts = Least file cells space

  -- ── The kind ──

  pub kind_none : number_at file 0 ≡ none → Leasts 0 10 0
  kind_none e = record { applies = kind_missing 0 (missing_of [] tt refl e); clear = clear_none file cells space; upon = upon }
    where
      upon : (l q : ℕ) → AtKind file cells space l q → Upon 10 0 l q
      upon l q (no_kind z f g) = inr (sym g, refl)
      upon l q (other_kind kind z f g a b) = no_number file 0 e f

  module _ (kind : ℕ) (k0 : number_at file 0 ≡ some kind) where
    pub kind_bad : (kind ≡ 1 → ⊥) → (kind ≡ 2 → ⊥) → Leasts 0 11 0
    kind_bad a b =
        record { applies = kind_other kind 0 (starts_of_stand (kind ∷ []) (k0, tt)) (refl, a, b); clear = clear_none file cells space; upon = upon }
      where
        upon : (l q : ℕ) → AtKind file cells space l q → Upon 11 0 l q
        upon l q (no_kind z f g) = no_number file 0 f k0
        upon l q (other_kind c z f g a b) = inr (sym g, refl)

    pub kind_good : (kind ≡ 1) ⊎ (kind ≡ 2) → Cleared 1
    kind_good h = clear_next file cells space 0 (clear_none file cells space) gone
      where
        gone : (l q : ℕ) → AtKind file cells space l q → ⊥
        gone l q (no_kind z f g) = no_number file 0 f k0
        gone l q (other_kind c z f g a b) =
            let e = same_number file 0 f k0 in
            ⊎_elim (λ i. a (e ∙ i)) (λ i. b (e ∙ i)) h

    -- ── n ──

    module _ (c1 : Cleared 1) where
      pub n_none : number_at file (behind 0 kind) ≡ none → Leasts 1 10 (behind 0 kind)
      n_none e =
          record { applies = n_missing kind (behind 0 kind) (missing_of (kind ∷ []) (k0, tt) refl e); clear = c1; upon = upon }
        where
          upon : (l q : ℕ) → AtN file cells space l q → Upon 10 (behind 0 kind) l q
          upon l q (no_n c z s f g) = inr (sym (f ∙ ap (behind 0) (same_number file 0 s.0 k0)), refl)
          upon l q (bad_n c n z s f) = no_number file (behind 0 kind) e (stand_next file 0 (n ∷ []) k0 s).1.0

      module _ (n : ℕ) (n0 : number_at file (behind 0 kind) ≡ some n) where
        no_n_here : {A : Type 0} (c z : ℕ) → Stand file 0 (c ∷ []) → z ≡ behind 0 c → number_at file z ≡ none → A
        no_n_here c z s f g =
            no_number file (behind 0 kind) (subst (λ z. number_at file z ≡ none) (f ∙ ap (behind 0) (same_number file 0 s.0 k0)) g) n0

        pub n_bad : is_alphabet n ≡ false → Leasts 1 1 0
        n_bad e =
            record {
              applies = n_beyond kind n 0 (starts_of_stand (kind ∷ n ∷ []) (k0, (n0, tt))) (refl, λ h. true≢false (sym (in_alphabet n h.0 h.1) ∙ e));
              clear = c1;
              upon = upon;
            }
          where
            upon : (l q : ℕ) → AtN file cells space l q → Upon 1 0 l q
            upon l q (no_n c z s f g) = no_n_here c z s f g
            upon l q (bad_n c m z s f) = inr (sym f.0, refl)

        pub n_good : is_alphabet n ≡ true → Cleared 2
        n_good e = clear_next file cells space 1 c1 gone
          where
            gone : (l q : ℕ) → AtN file cells space l q → ⊥
            gone l q (no_n c z s f g) = no_n_here c z s f g
            gone l q (bad_n c m z s f) =
                let i = (stand_next file (behind 0 kind) [] n0 (stand_next file 0 (m ∷ []) k0 s).1).0 in
                f.1 (subst (λ n. (1 ≤ n) × (n ≤ 26)) (sym i) (alphabet_in n e))

        -- ── The number of points, or of words ──

        abbrev pub place₂ : ℕ
        place₂ = behind (behind 0 kind) n

        -- two numbers and what is behind them
        from_two : (c m : ℕ) (xs : List ℕ) → Stand file 0 (c ∷ m ∷ xs) → (c ≡ kind) × (m ≡ n) × Stand file place₂ xs
        from_two c m xs s =
            let a = stand_next file 0 (m ∷ xs) k0 s in
            let b = stand_next file (behind 0 kind) xs n0 a.1 in
            (a.0, b.0, b.1)

        module _ (c2 : Cleared 2) where
          pub count_none : number_at file place₂ ≡ none → Leasts 2 10 place₂
          count_none e =
              record { applies = count_missing kind n place₂ (missing_of (kind ∷ n ∷ []) (k0, (n0, tt)) refl e); clear = c2; upon = upon }
            where
              upon : (l q : ℕ) → AtCount file cells space l q → Upon 10 place₂ l q
              upon l q (no_count c m z s f g) =
                  let t = from_two c m [] s in
                  inr (sym (f ∙ ap (λ c. behind (behind 0 c) m) t.0 ∙ ap (behind (behind 0 kind)) t.1), refl)
              upon l q (bad_points m M z s f) = no_number file place₂ e (from_two 1 m (M ∷ []) s).2.0

          module _ (N : ℕ) (N0 : number_at file place₂ ≡ some N) where
            no_count_here : {A : Type 0} (c m z : ℕ) → Stand file 0 (c ∷ m ∷ []) → z ≡ end_from 0 (c ∷ m ∷ []) → number_at file z ≡ none → A
            no_count_here c m z s f g =
                let t = from_two c m [] s in
                no_number file place₂ (subst (λ z. number_at file z ≡ none) (f ∙ ap (λ c. behind (behind 0 c) m) t.0 ∙ ap (behind (behind 0 kind)) t.1) g) N0

            pub points_bad : kind ≡ 1 → is_lent n N cells ≡ false → Leasts 2 6 0
            points_bad one e =
                record {
                  applies = points_wrong n N 0 (starts_of_stand (1 ∷ n ∷ N ∷ []) (subst (λ k. Stand file 0 (k ∷ n ∷ N ∷ [])) one (k0, (n0, (N0, tt)))))
                      (subst (λ b. Verdict (Only 6 (Cause6Lent n N cells)) (refused_if (not b) 6 0)) e (lent_decides n N cells).verdict).applies.1;
                  clear = c2;
                  upon = upon;
                }
              where
                upon : (l q : ℕ) → AtCount file cells space l q → Upon 6 0 l q
                upon l q (no_count c m z s f g) = no_count_here c m z s f g
                upon l q (bad_points m M z s f) = inr (sym f.0, refl)

            -- of a table's file the points fit, of a list's any count does
            pub count_good : (kind ≡ 1 → is_lent n N cells ≡ true) → Cleared 3
            count_good h = clear_next file cells space 2 c2 gone
              where
                gone : (l q : ℕ) → AtCount file cells space l q → ⊥
                gone l q (no_count c m z s f g) = no_count_here c m z s f g
                gone l q (bad_points m M z s f) =
                    let t = from_two 1 m (M ∷ []) s in
                    let i = (stand_next file place₂ [] N0 t.2).0 in
                    subst (λ b. Verdict (Only 6 (Cause6Lent n N cells)) (refused_if (not b) 6 0)) (h (sym t.0)) (lent_decides n N cells).verdict 6 z
                    (refl, subst (λ N. Cause6Lent n N cells z) i (subst (λ n. Cause6Lent n M cells z) t.1 f))
