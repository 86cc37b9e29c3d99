-- A refusal of a file is its first cause (`specs/Causes`).
--   At, view        : the causes of one step, place by place
--   Clear s        <-> no cause applies at a step before s
--   Least s k p    <-> k at p applies at step s, nothing before it, and at this step only causes upon it
--   least_first, least_one : that is `FirstInFile`, and nothing else is
-- Assumes nothing.
use mathlib.Core.Path.{◌≡◌, refl, sym, ◌∙◌, ap, subst}
use mathlib.Core.Logic.{by_cases, inl, inr, ⊎_elim}
use mathlib.Core.Option.{none, some}
use mathlib.Core.List.{List, [], ◌∷◌, ◌++◌, map}
use Prim.Native.Nat.{ℕ, zero, suc, ◌*◌, ◌≤◌, ◌<◌}
use native.Mathlib.Decide.{ℕ_discrete, dec_lt}
use native.Mathlib.Omega.{arith}
use lib.ListN.{length}
use Rattle.theory.specs.Files.{word_numbers, Cause12}
use Rattle.theory.specs.Refusals.{Cause1, Cause2, Cause6Lent, CauseShort}
use Rattle.theory.specs.TableRefusals.{Cause8}
use Rattle.theory.specs.Texts.{list_text}
use Rattle.runs.specs.Runs.{number_at, behind}
use Rattle.table_files.specs.TableFiles.{number_cell}
use Rattle.loads.specs.Causes.{end_of, InWord, Unfinished, FileCause, kind_missing, kind_other, n_missing, n_beyond, count_missing, points_wrong, cell_missing, number_missing, letter_beyond, cells_end, words_end, cell_faulty, text_long, text_narrow, FirstInFile}
use Rattle.loads.proofs.StandLaws.{Stand, end_from, stand_of_starts, end_is, missing_told, stand_front, stand_back}
use Rattle.loads.proofs.Events.{Upon, WordEvent, word_between, word_tail}

-- the numbers of a table's file, and of a list's
abbrev pub table_run : ℕ → ℕ → List ℕ → List ℕ
table_run n N xs = 1 ∷ n ∷ N ∷ xs

abbrev pub list_run : ℕ → List (List ℕ) → List ℕ
list_run n ws = 2 ∷ n ∷ length ws ∷ word_numbers ws

module _ (file : List ℕ) (cells space : ℕ) where
  -- ── The causes of one step ──

  pub data AtKind : ℕ → ℕ → Type 0 where
    no_kind : (q : ℕ) → number_at file 0 ≡ none → q ≡ 0 → AtKind 10 q
    other_kind : (kind q : ℕ) → number_at file 0 ≡ some kind → q ≡ 0 → (kind ≡ 1 → ⊥) → (kind ≡ 2 → ⊥) → AtKind 11 q

  pub data AtN : ℕ → ℕ → Type 0 where
    no_n : (kind q : ℕ) → Stand file 0 (kind ∷ []) → q ≡ behind 0 kind → number_at file q ≡ none → AtN 10 q
    bad_n : (kind n q : ℕ) → Stand file 0 (kind ∷ n ∷ []) → Cause1 n q → AtN 1 q

  pub data AtCount : ℕ → ℕ → Type 0 where
    no_count : (kind n q : ℕ) → Stand file 0 (kind ∷ n ∷ []) → q ≡ end_from 0 (kind ∷ n ∷ []) → number_at file q ≡ none → AtCount 10 q
    bad_points : (n N q : ℕ) → Stand file 0 (1 ∷ n ∷ N ∷ []) → Cause6Lent n N cells q → AtCount 6 q

  pub data AtNumbers : ℕ → ℕ → Type 0 where
    no_cell : (n N q : ℕ) (xs : List ℕ) → length xs < N * (2 * n) → Stand file 0 (table_run n N xs) → q ≡ end_from 0 (table_run n N xs)
        → number_at file q ≡ none → AtNumbers 10 q
    in_words : (n k l q : ℕ) → Stand file 0 (2 ∷ n ∷ k ∷ []) → WordEvent n file (end_from 0 (2 ∷ n ∷ k ∷ [])) k l q → AtNumbers l q

  pub data AtEnd : ℕ → ℕ → Type 0 where
    cells_more : (n N q : ℕ) (xs : List ℕ) → length xs ≡ N * (2 * n) → Stand file 0 (table_run n N xs) → Cause12 file (end_from 0 (table_run n N xs)) q → AtEnd 12 q
    words_more : (n q : ℕ) (ws : List (List ℕ)) → Stand file 0 (list_run n ws) → Cause12 file (end_from 0 (list_run n ws)) q → AtEnd 12 q

  pub data AtFault : ℕ → ℕ → Type 0 where
    bad_cell : (n N q : ℕ) (xs : List ℕ) → length xs ≡ N * (2 * n) → Stand file 0 (table_run n N xs) → Cause8 n N (map number_cell xs) q → AtFault 8 q
    long_text : (n q : ℕ) (ws : List (List ℕ)) → Stand file 0 (list_run n ws) → Cause2 (list_text ws) q → AtFault 2 q

  pub data AtSpace : ℕ → ℕ → Type 0 where
    short_text : (n q : ℕ) (ws : List (List ℕ)) → Stand file 0 (list_run n ws) → CauseShort (length (list_text ws)) space q → AtSpace 9 q

  abbrev pub At : ℕ → ℕ → ℕ → Type 0
  At zero l q = AtKind l q
  At (suc zero) l q = AtN l q
  At (suc (suc zero)) l q = AtCount l q
  At (suc (suc (suc zero))) l q = AtNumbers l q
  At (suc (suc (suc (suc zero)))) l q = AtEnd l q
  At (suc (suc (suc (suc (suc zero))))) l q = AtFault l q
  At (suc (suc (suc (suc (suc (suc zero)))))) l q = AtSpace l q
  At (suc (suc (suc (suc (suc (suc (suc s))))))) l q = ⊥

  -- a number of a list that is missing
  unfinished_at : (n k q : ℕ) (xs : List ℕ) → Unfinished k xs → Stand file 0 (2 ∷ n ∷ k ∷ xs) → q ≡ end_from 0 (2 ∷ n ∷ k ∷ xs)
      → number_at file q ≡ none → WordEvent n file (end_from 0 (2 ∷ n ∷ k ∷ [])) k 10 q
  unfinished_at n k q xs (inl (ws, h, e)) s f g =
      let p : ℕ = end_from 0 (2 ∷ n ∷ k ∷ []) in
      let i = f ∙ ap (end_from p) e in
      subst (λ q. WordEvent n file p k 10 q) (sym i)
      (word_between n file ws k p h (subst (Stand file p) e s.1.1.1) (subst (λ q. number_at file q ≡ none) i g))
  unfinished_at n k q xs (inr (ws, c, w, h, b, e)) s f g =
      let p : ℕ = end_from 0 (2 ∷ n ∷ k ∷ []) in
      let i = f ∙ ap (end_from p) e in
      subst (λ q. WordEvent n file p k 10 q) (sym i)
      (word_tail n file ws c w k p 10 h b (subst (Stand file p) e s.1.1.1) (inl (subst (λ q. number_at file q ≡ none) i g, refl)))

  beyond_at : (n k q y : ℕ) (xs : List ℕ) → InWord k xs → Stand file 0 (2 ∷ n ∷ k ∷ (xs ++ (y ∷ []))) → 2 * n ≤ y → q ≡ end_from 0 (2 ∷ n ∷ k ∷ xs)
      → WordEvent n file (end_from 0 (2 ∷ n ∷ k ∷ [])) k 4 q
  beyond_at n k q y xs (ws, c, w, h, b, e) s m f =
      let p : ℕ = end_from 0 (2 ∷ n ∷ k ∷ []) in
      let i = f ∙ ap (end_from p) e in
      let t = subst (λ xs. Stand file p (xs ++ (y ∷ []))) e s.1.1.1 in
      subst (λ q. WordEvent n file p k 4 q) (sym i)
      (word_tail n file ws c w k p 4 h b (stand_front file p (word_numbers ws ++ (c ∷ w)) (y ∷ []) t)
      (inr (y, (stand_back file p (word_numbers ws ++ (c ∷ w)) (y ∷ []) t).0, m, refl)))

  end_twelve : (xs : List ℕ) (q : ℕ) → Cause12 file (end_of xs) q → Cause12 file (end_from 0 xs) q
  end_twelve xs q c = subst (λ e. Cause12 file e q) (sym (end_is xs)) c

  pub view : (s l q : ℕ) → FileCause file cells space s l q → At s l q
  view s l q (kind_missing p m) = let t = missing_told [] m in no_kind p (subst (λ z. number_at file z ≡ none) t.1 t.2) t.1
  view s l q (kind_other kind p t c) = other_kind kind p (stand_of_starts t).0 c.0 c.1 c.2
  view s l q (n_missing kind p m) = let t = missing_told (kind ∷ []) m in no_n kind p t.0 t.1 t.2
  view s l q (n_beyond kind n p t c) = bad_n kind n p (stand_of_starts t) c
  view s l q (count_missing kind n p m) = let t = missing_told (kind ∷ n ∷ []) m in no_count kind n p t.0 t.1 t.2
  view s l q (points_wrong n N p t c) = bad_points n N p (stand_of_starts t) c
  view s l q (cell_missing n N p xs h m) = let t = missing_told (table_run n N xs) m in no_cell n N p xs h t.0 t.1 t.2
  view s l q (number_missing n k p xs u m) =
      let t = missing_told (2 ∷ n ∷ k ∷ xs) m in
      in_words n k 10 p (t.0.0, (t.0.1.0, (t.0.1.1.0, tt))) (unfinished_at n k p xs u t.0 t.1 t.2)
  view s l q (letter_beyond n k p y xs u t h e) =
      let z = stand_of_starts t in
      in_words n k 4 p (z.0, (z.1.0, (z.1.1.0, tt))) (beyond_at n k p y xs u z h (e ∙ sym (end_is (2 ∷ n ∷ k ∷ xs))))
  view s l q (cells_end n N p xs h t c) = cells_more n N p xs h (stand_of_starts t) (end_twelve (table_run n N xs) p c)
  view s l q (words_end n p ws t c) = words_more n p ws (stand_of_starts t) (end_twelve (list_run n ws) p c)
  view s l q (cell_faulty n N p xs h t c) = bad_cell n N p xs h (stand_of_starts t) c
  view s l q (text_long n p ws t c) = long_text n p ws (stand_of_starts t) c
  view s l q (text_narrow n p ws t c) = short_text n p ws (stand_of_starts t) c

  -- ── The first of all ──

  abbrev pub Clear : ℕ → Type 0
  Clear s = (u l q : ℕ) → u < s → FileCause file cells space u l q → ⊥

  pub clear_next : (s : ℕ) → Clear s → ((l q : ℕ) → At s l q → ⊥) → Clear (suc s)
  clear_next s h f u l q b c =
      by_cases (ℕ_discrete u s) (λ e. f l q (subst (λ u. At u l q) e (view u l q c))) (λ e. h u l q (omega arith) c)

  pub clear_none : Clear 0
  clear_none u l q b c = absurd (omega arith)

  -- no step is behind the last
  late : (u l q : ℕ) → At u l q → u < 7
  late zero l q a = omega arith
  late (suc zero) l q a = omega arith
  late (suc (suc zero)) l q a = omega arith
  late (suc (suc (suc zero))) l q a = omega arith
  late (suc (suc (suc (suc zero)))) l q a = omega arith
  late (suc (suc (suc (suc (suc zero))))) l q a = omega arith
  late (suc (suc (suc (suc (suc (suc zero)))))) l q a = omega arith
  late (suc (suc (suc (suc (suc (suc (suc s))))))) l q a = absurd a

  pub clear_all : Clear 7 → (u l q : ℕ) → FileCause file cells space u l q → ⊥
  clear_all h u l q c = h u l q (late u l q (view u l q c)) c

  pub record Least (s k p : ℕ) : Type 0 where
    pub applies : FileCause file cells space s k p
    pub clear : Clear s
    pub upon : (l q : ℕ) → At s l q → Upon k p l q

  pub least_first : {s k p : ℕ} → Least s k p → FirstInFile file cells space k p
  least_first {s} {k} {p} h =
      record {
        step = s;
        applies = h.applies;
        foremost = λ u l q b c. ⊎_elim (λ a. h.clear u l q a c)
            (λ a. ⊎_elim (λ d. omega (arith, d, a.1)) (λ d. omega (arith, d.0, a.1)) (h.upon l q (subst (λ u. At u l q) a.0 (view u l q c)))) b;
      }

  pub least_one : {s k p : ℕ} → Least s k p → (l q : ℕ) → FirstInFile file cells space l q → (k ≡ l) × (p ≡ q)
  least_one {s} {k} {p} h l q f =
      by_cases (dec_lt f.step s) (λ b. absurd (h.clear f.step l q b f.applies))
      (λ b. by_cases (dec_lt s f.step) (λ c. absurd (f.foremost s k p (inl c) h.applies))
      (λ c. let e : f.step ≡ s = meet f.step s b c in
      ⊎_elim (λ d. absurd (f.foremost s k p (inr (sym e, d)) h.applies)) (λ d. (d.1, d.0))
      (h.upon l q (subst (λ u. At u l q) e (view f.step l q f.applies)))))
    where
      meet : (a b : ℕ) → (a < b → ⊥) → (b < a → ⊥) → a ≡ b
      meet a b x y = omega arith
