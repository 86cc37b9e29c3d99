-- What `load` finds in a file (loads' `file_in`), and the file that it is found in.
--   table_found, list_found           : in the file of a table, of a list, that is not refused `load` finds the table, the list
--   FoundTable, found_table_file      : where a table is found, the file is that table's
--   FoundList, found_list_file        : where a list is found, the file is that list's
--   table_answer, list_answer         : what `load` says of a table of N points, of a list of so many words and bytes
--   table_said, list_said             : what was found, by what `load` says
-- Assumes nothing.
use mathlib.Core.Path.{◌≡◌, refl, sym, ◌∙◌, ap, subst}
use mathlib.Core.Bool.{Bool, true, false, cond, ◌||◌, true≢false}
use mathlib.Core.Option.{Option, none, some}
use mathlib.Core.List.{List, ◌∷◌, ◌++◌, map}
use Prim.Native.Nat.{ℕ, ◌*◌, ◌≤◌}
use native.Mathlib.Omega.{arith}
use lib.Dec.{eqb}
use lib.ListN.{length, take, drop}
use lib.Seq.{take-length}
use borrow.Author.Tests.{eqb-true}
use Rattle.std.specs.declared.result.Result.{Result}
use Rattle.std.specs.declared.result.Result.TheVariants.{Ok, Err}
use Rattle.theory.specs.Files.{number_limit, number_bytes, numbers_bytes, cell_number, table_file, word_numbers, list_file}
use Rattle.theory.specs.Refusals.{text_limit, is_alphabet}
use Rattle.theory.specs.Texts.{list_text}
use Rattle.theory.proofs.WordLaws.{by_test}
use Rattle.theory.proofs.RefusalLaws.{alphabet_in}
use Rattle.theory.proofs.ListTexts.{WordsBelow}
use Rattle.refusals.specs.declared.Refusal.{Refusal}
use Rattle.runs.specs.Runs.{number_at, behind}
use Rattle.runs.proofs.BackLaws.{number_read, number_left, number_written}
use Rattle.table_files.specs.TableFiles.{TableIn, refused, faulty, sound, table_in}
use Rattle.list_files.specs.ListFiles.{ListIn, refused as unlisted, listed, list_in}
use Rattle.loads.specs.declared.Loaded.{Loaded}
use Rattle.loads.specs.declared.Loaded.TheVariants.{Table, List as ListLoaded}
use Rattle.loads.specs.Loads.{FileIn, unread, table_met, list_met, by_kind, after_n, after_kind, file_in, loaded_for}
use Rattle.accords.proofs.CellsBack.{Fine, TableStands, table_read, table_written}
use Rattle.accords.proofs.WordsBack.{ListStands, list_read, list_written}

-- the place behind the kind and n
abbrev pub head_end : ℕ → ℕ → ℕ
head_end kind n = behind (behind 0 kind) n

-- ── The head is read ──

module _ (cells space : ℕ) (file rest : List ℕ) (n : ℕ) (a : is_alphabet n ≡ true) where
  fits : n ≤ number_limit
  fits = omega (arith, (alphabet_in n a).1)

  behind_kind : (kind : ℕ) → file ≡ number_bytes kind ++ (number_bytes n ++ rest) → drop (behind 0 kind) file ≡ number_bytes n ++ rest
  behind_kind kind e = number_left file (number_bytes n ++ rest) 0 kind e

  behind_head : (kind : ℕ) → file ≡ number_bytes kind ++ (number_bytes n ++ rest) → drop (head_end kind n) file ≡ rest
  behind_head kind e = number_left file rest (behind 0 kind) n (behind_kind kind e)

  kind_read : (kind : ℕ) → kind ≤ number_limit → file ≡ number_bytes kind ++ (number_bytes n ++ rest) → (eqb kind 1 || eqb kind 2) ≡ true
      → file_in cells space file ≡ by_kind cells space file kind n (head_end kind n)
  unfolding file_in
  kind_read kind h e k =
      ap (after_kind cells space file) (number_read file (number_bytes n ++ rest) 0 kind h e)
      ∙ ap (λ b. cond b (after_n cells space file kind (behind 0 kind) (number_at file (behind 0 kind))) (unread (record { number = 11; place = 0 }))) k
      ∙ ap (after_n cells space file kind (behind 0 kind)) (number_read file rest (behind 0 kind) n fits (behind_kind kind e))
      ∙ ap (λ b. cond b (by_kind cells space file kind n (head_end kind n)) (unread (record { number = 1; place = 0 }))) a

pub table_found : (n N : ℕ) (t : List ℕ) (cells space : ℕ) → Fine n N t → N * (2 * n) ≤ cells
    → file_in cells space (table_file n N t) ≡ table_met n (sound N (take (N * (2 * n)) t))
unfolding table_file numbers_bytes
table_found n N t cells space f h =
    let rest : List ℕ = numbers_bytes (N ∷ map cell_number (take (N * (2 * n)) t)) in
    kind_read cells space (table_file n N t) rest n f.alphabet 1 (omega arith) refl refl
    ∙ ap (table_met n) (table_read n N cells (table_file n N t) (head_end 1 n) t f h (behind_head cells space (table_file n N t) rest n f.alphabet 1 refl))

pub list_found : (n : ℕ) (ws : List (List ℕ)) (cells space : ℕ) → is_alphabet n ≡ true → WordsBelow (2 * n) ws → length (list_text ws) ≤ text_limit
    → length (list_text ws) ≤ space → file_in cells space (list_file n ws) ≡ list_met n (listed ws)
unfolding list_file numbers_bytes
list_found n ws cells space a b h k =
    let rest : List ℕ = numbers_bytes (length ws ∷ word_numbers ws) in
    kind_read cells space (list_file n ws) rest n a 2 (omega arith) refl refl
    ∙ ap (list_met n) (list_read n space (list_file n ws) (head_end 2 n) ws (alphabet_in n a).1 b h k (behind_head cells space (list_file n ws) rest n a 2 refl))

-- ── The head that was read ──

abbrev IsRead : FileIn → Type 0
IsRead (unread r) = ⊥
IsRead (table_met n m) = Unit {0}
IsRead (list_met n m) = Unit {0}

record Headed (cells space : ℕ) (file : List ℕ) : Type 0 where
  kind : ℕ
  n : ℕ
  kinds : (eqb kind 1 || eqb kind 2) ≡ true
  alphabet : is_alphabet n ≡ true
  bytes : file ≡ number_bytes kind ++ (number_bytes n ++ drop (head_end kind n) file)
  found : file_in cells space file ≡ by_kind cells space file kind n (head_end kind n)

headed : (cells space : ℕ) (file : List ℕ) → IsRead (file_in cells space file) → Headed cells space file
unfolding file_in
headed cells space file w = by_kind_lem (number_at file 0) refl refl
  where
    by_alphabet : (kind n : ℕ) → number_at file 0 ≡ some kind → (eqb kind 1 || eqb kind 2) ≡ true → number_at file (behind 0 kind) ≡ some n
        → (b : Bool) → is_alphabet n ≡ b
        → file_in cells space file ≡ cond b (by_kind cells space file kind n (head_end kind n)) (unread (record { number = 1; place = 0 }))
        → Headed cells space file
    by_alphabet kind n a k d false f e = absurd (subst IsRead e w)
    by_alphabet kind n a k d true f e =
        record {
          kind = kind;
          n = n;
          kinds = k;
          alphabet = f;
          bytes = (number_written file 0 kind a).1 ∙ ap (λ l. number_bytes kind ++ l) (number_written file (behind 0 kind) n d).1;
          found = e;
        }

    by_n : (kind : ℕ) → number_at file 0 ≡ some kind → (eqb kind 1 || eqb kind 2) ≡ true → (o : Option ℕ) → number_at file (behind 0 kind) ≡ o
        → file_in cells space file ≡ after_n cells space file kind (behind 0 kind) o → Headed cells space file
    by_n kind a k none d e = absurd (subst IsRead e w)
    by_n kind a k (some n) d e = by_alphabet kind n a k d (is_alphabet n) refl e

    by_kinds : (kind : ℕ) → number_at file 0 ≡ some kind → (b : Bool) → (eqb kind 1 || eqb kind 2) ≡ b
        → file_in cells space file
        ≡ cond b (after_n cells space file kind (behind 0 kind) (number_at file (behind 0 kind))) (unread (record { number = 11; place = 0 }))
        → Headed cells space file
    by_kinds kind a false k e = absurd (subst IsRead e w)
    by_kinds kind a true k e = by_n kind a k (number_at file (behind 0 kind)) refl e

    by_kind_lem : (o : Option ℕ) → number_at file 0 ≡ o → file_in cells space file ≡ after_kind cells space file o → Headed cells space file
    by_kind_lem none a e = absurd (subst IsRead e w)
    by_kind_lem (some kind) a e = by_kinds kind a (eqb kind 1 || eqb kind 2) refl e

table_list : {n k : ℕ} {m : TableIn} {l : ListIn} → table_met n m ≡ list_met k l → ⊥
table_list e = true≢false cc

table_one : {n k : ℕ} {m l : TableIn} → table_met n m ≡ table_met k l → (n ≡ k) × (m ≡ l)
table_one e = (cc, cc)

list_one : {n k : ℕ} {m l : ListIn} → list_met n m ≡ list_met k l → (n ≡ k) × (m ≡ l)
list_one e = (cc, cc)

-- ── A table that was found ──

pub record FoundTable (cells : ℕ) (file : List ℕ) (n N : ℕ) (t : List ℕ) : Type 0 where
  pub alphabet : is_alphabet n ≡ true
  pub stands : TableStands n cells file (head_end 1 n) N t
  pub whole : file ≡ table_file n N t

module _ (cells space : ℕ) (file : List ℕ) (n N : ℕ) (t : List ℕ) where
  table_here_lem : is_alphabet n ≡ true → file ≡ number_bytes 1 ++ (number_bytes n ++ drop (head_end 1 n) file)
      → table_in n cells file (head_end 1 n) ≡ sound N t → FoundTable cells file n N t
  unfolding table_file numbers_bytes
  table_here_lem a b e =
      let s = table_written n cells file (head_end 1 n) N t e in
      record {
        alphabet = a;
        stands = s;
        whole =
            b ∙ ap (λ l. number_bytes 1 ++ (number_bytes n ++ l)) s.bytes
            ∙ ap (λ l. numbers_bytes (1 ∷ n ∷ N ∷ map cell_number l)) (sym (take-length t) ∙ ap (λ k. take k t) s.rows);
      }

  pub found_table_file : file_in cells space file ≡ table_met n (sound N t) → FoundTable cells file n N t
  found_table_file e =
      let h = headed cells space file (subst IsRead (sym e) tt) in
      by_test (eqb h.kind 1) (λ k. one h k)
      (λ k. absurd (table_list (sym e ∙ h.found ∙ ap (λ b. choice h b) k)))
    where
      choice : Headed cells space file → Bool → FileIn
      choice h b =
          cond b (table_met h.n (table_in h.n cells file (head_end h.kind h.n))) (list_met h.n (list_in h.n space file (head_end h.kind h.n)))

      one : (h : Headed cells space file) → eqb h.kind 1 ≡ true → FoundTable cells file n N t
      one h k =
          let o = table_one (sym e ∙ h.found ∙ ap (λ b. choice h b) k) in
          let i = eqb-true h.kind 1 k in
          let same : head_end h.kind h.n ≡ head_end 1 n = ap (λ j. head_end j h.n) i ∙ ap (head_end 1) (sym o.0) in
          table_here_lem (ap is_alphabet o.0 ∙ h.alphabet)
          (h.bytes ∙ ap (λ j. number_bytes j ++ (number_bytes h.n ++ drop (head_end h.kind h.n) file)) i
          ∙ ap (λ j. number_bytes 1 ++ (number_bytes j ++ drop (head_end h.kind h.n) file)) (sym o.0)
          ∙ ap (λ j. number_bytes 1 ++ (number_bytes n ++ drop j file)) same)
          (ap (λ j. table_in n cells file j) (sym same) ∙ ap (λ j. table_in j cells file (head_end h.kind h.n)) o.0 ∙ sym o.1)

-- ── A list that was found ──

pub record FoundList (space : ℕ) (file : List ℕ) (n : ℕ) (ws : List (List ℕ)) : Type 0 where
  pub alphabet : is_alphabet n ≡ true
  pub stands : ListStands n space file (head_end 2 n) ws
  pub whole : file ≡ list_file n ws

module _ (cells space : ℕ) (file : List ℕ) (n : ℕ) (ws : List (List ℕ)) where
  list_here : is_alphabet n ≡ true → file ≡ number_bytes 2 ++ (number_bytes n ++ drop (head_end 2 n) file)
      → list_in n space file (head_end 2 n) ≡ listed ws → FoundList space file n ws
  unfolding list_file numbers_bytes
  list_here a b e =
      let s = list_written n space file (head_end 2 n) ws e in
      record { alphabet = a; stands = s; whole = b ∙ ap (λ l. number_bytes 2 ++ (number_bytes n ++ l)) s.bytes }

  pub found_list_file : file_in cells space file ≡ list_met n (listed ws) → FoundList space file n ws
  found_list_file e =
      let h = headed cells space file (subst IsRead (sym e) tt) in
      by_test (eqb h.kind 1) (λ k. absurd (table_list (sym (sym e ∙ h.found ∙ ap (λ b. choice h b) k)))) (λ k. two h k)
    where
      choice : Headed cells space file → Bool → FileIn
      choice h b =
          cond b (table_met h.n (table_in h.n cells file (head_end h.kind h.n))) (list_met h.n (list_in h.n space file (head_end h.kind h.n)))

      two : (h : Headed cells space file) → eqb h.kind 1 ≡ false → FoundList space file n ws
      two h k =
          let o = list_one (sym e ∙ h.found ∙ ap (λ b. choice h b) k) in
          let i = eqb-true h.kind 2 (sym (ap (λ b. b || eqb h.kind 2) k) ∙ h.kinds) in
          let same : head_end h.kind h.n ≡ head_end 2 n = ap (λ j. head_end j h.n) i ∙ ap (head_end 2) (sym o.0) in
          list_here (ap is_alphabet o.0 ∙ h.alphabet)
          (h.bytes ∙ ap (λ j. number_bytes j ++ (number_bytes h.n ++ drop (head_end h.kind h.n) file)) i
          ∙ ap (λ j. number_bytes 2 ++ (number_bytes j ++ drop (head_end h.kind h.n) file)) (sym o.0)
          ∙ ap (λ j. number_bytes 2 ++ (number_bytes n ++ drop j file)) same)
          (ap (λ j. list_in n space file j) (sym same) ∙ ap (λ j. list_in j space file (head_end h.kind h.n)) o.0 ∙ sym o.1)

-- ── What was found, by what is said ──

abbrev pub table_answer : ℕ → ℕ → Result Loaded Refusal
table_answer n N = Ok (Table n N)

abbrev pub list_answer : ℕ → ℕ → ℕ → Result Loaded Refusal
list_answer n words bytes = Ok (ListLoaded n (record { words = words; bytes = bytes }))

-- a refusal is no such answer, and a table is no list
refused_loaded : {l : Loaded} {r : Refusal} → Ok l ≡ Err r → ⊥
refused_loaded e = true≢false cc

met_apart : {n N m words bytes : ℕ} → table_answer n N ≡ list_answer m words bytes → ⊥
met_apart e = true≢false cc

-- the parts of an answer: n, and the points of a table, or the words and bytes of a list
abbrev parts : Result Loaded Refusal → ℕ × ℕ × ℕ
parts (Err r) = (0, 0, 0)
parts (Ok (Table n points)) = (n, points, 0)
parts (Ok (ListLoaded n size)) = (n, size.words, size.bytes)

said : {a b : Result Loaded Refusal} → a ≡ b → ((parts a).0 ≡ (parts b).0) × ((parts a).1 ≡ (parts b).1) × ((parts a).2 ≡ (parts b).2)
said e = (ap (λ r. (parts r).0) e, ap (λ r. (parts r).1) e, ap (λ r. (parts r).2) e)

pub table_said : (n N : ℕ) (m : FileIn) → table_answer n N ≡ loaded_for m → (t : List ℕ) × (m ≡ table_met n (sound N t))
table_said n N (unread r) e = absurd (refused_loaded e)
table_said n N (table_met k (refused r)) e = absurd (refused_loaded e)
table_said n N (table_met k (faulty c r)) e = absurd (refused_loaded e)
table_said n N (table_met k (sound M t)) e =
    (t, ap (λ j. table_met j (sound M t)) (sym (said e).0) ∙ ap (λ j. table_met n (sound j t)) (sym (said e).1))
table_said n N (list_met k (unlisted r)) e = absurd (refused_loaded e)
table_said n N (list_met k (listed ws)) e = absurd (met_apart e)

pub list_said : (n words bytes : ℕ) (m : FileIn) → list_answer n words bytes ≡ loaded_for m
    → (ws : List (List ℕ)) × (m ≡ list_met n (listed ws)) × (words ≡ length ws) × (bytes ≡ length (list_text ws))
list_said n words bytes (unread r) e = absurd (refused_loaded e)
list_said n words bytes (table_met k (refused r)) e = absurd (refused_loaded e)
list_said n words bytes (table_met k (faulty c r)) e = absurd (refused_loaded e)
list_said n words bytes (table_met k (sound M t)) e = absurd (met_apart (sym e))
list_said n words bytes (list_met k (unlisted r)) e = absurd (refused_loaded e)
list_said n words bytes (list_met k (listed ws)) e =
    (ws, ap (λ j. list_met j (listed ws)) (sym (said e).0), (said e).1, (said e).2)
