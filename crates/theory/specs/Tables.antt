-- Tables, cells and reading (document 01, 'The table'), and graphs read by letters in general.
--   absent             == the absent mark 4,294,967,295
--   cell n N t         == the cells of the table t of N points over n generators, by point and letter
--   Leads c v y x     <-> letter y leads from point v to point x
--   Reads E v w x     <-> word w leads from v to x, where E says what single letters do
--   end_of c v w        == the point that w leads to from v, if it can be read
--   reading_of c w      == how far w can be read from the base: stopped (count, point, letter) or ended (point)
--   Accepts c q       <-> the reduced query leads from the base back to the base
-- N is document 01's V (a reserved word here). A `cell` outside the N rows and the 2n letters is absent, so that no law needs a
-- bound and what stands behind the N rows of a lent table counts for nothing. Assumes nothing.
use Rattle.std.specs.Prelude.{◌≡◌, Bool, false, cond, ◌&&◌, List, [], ◌∷◌, ℕ, suc, ◌+◌, ◌*◌, eqb, ltb, get_or}
use Rattle.std.proofs.Math.Option.{Option, none, some}
use Rattle.theory.specs.Words.{reduced}

abbrev pub absent : ℕ
absent = 4294967295

-- what each letter does at each point: the point that it leads to, or the absent mark
abbrev pub Cells : Type 0
Cells = ℕ → ℕ → ℕ

unfoldable pub cell : ℕ → ℕ → List ℕ → Cells
cell n N t v y = cond (ltb v N && ltb y (2 * n)) (get_or t (v * (2 * n) + y) absent) absent

abbrev pub Leads : Cells → ℕ → ℕ → ℕ → Type 0
Leads c v y x = (c v y ≡ x) × (x ≡ absent → ⊥)

-- a graph as a relation: from a point, by a letter, to a point
abbrev pub Steps : Type 1
Steps = ℕ → ℕ → ℕ → Type 0

-- the empty word leads from a point to itself; a letter and a word lead on from where the letter leads
abbrev pub Reads : Steps → ℕ → List ℕ → ℕ → Type 0
Reads E v [] x = v ≡ x
Reads E v (y ∷ w) x = (u : ℕ) × E v y u × Reads E u w x

unfoldable pub end_of : Cells → ℕ → List ℕ → Option ℕ
end_of c v [] = some v
end_of c v (y ∷ w) = cond (eqb (c v y) absent) none (end_of c (c v y) w)

-- how far a reading came: it stopped after some letters, at a point, for want of a letter; or it ended at a point
pub data Reading : Type 0 where
  stopped : ℕ → ℕ → ℕ → Reading
  ended : ℕ → Reading

-- reading w from v, after k letters
unfoldable pub reading_from : Cells → ℕ → ℕ → List ℕ → Reading
reading_from c k v [] = ended v
reading_from c k v (y ∷ w) = cond (eqb (c v y) absent) (stopped k v y) (reading_from c (suc k) (c v y) w)

-- reading w from the base
abbrev pub reading_of : Cells → List ℕ → Reading
reading_of c w = reading_from c 0 0 w

abbrev pub Accepts : Cells → List ℕ → Type 0
Accepts c q = Reads (Leads c) 0 (reduced q) 0

-- a point read is the point x
abbrev pub is_at : ℕ → Option ℕ → Bool
is_at x none = false
is_at x (some v) = eqb v x

-- the test for `Accepts`
unfoldable pub is_accepted : Cells → List ℕ → Bool
is_accepted c q = is_at 0 (end_of c 0 (reduced q))
