-- Laws of stores, links and unlinks (`specs/Cells`).
--   put_law         : the one store law: x there, kept elsewhere
--   IsEdge a y b    == the two ways of reading the edge from a by y to b, as steps
--   linked_cases    : what reads after a link is the new edge, or read before
--   unlinked_cases  : what read before an unlink is the edge that went, or reads still
-- Both keep the inverse law, `Turns (Leads c)`. Assumes nothing.
use mathlib.Core.Path.{◌≡◌, refl, sym, ◌∙◌, ap, subst₃}
use mathlib.Core.Logic.{◌⊎◌, inl, inr, ⊎_elim, by_cases}
use Prim.Native.Nat.{ℕ}
use native.Mathlib.Decide.{ℕ_discrete}
use native.Mathlib.Omega.{arith}
use borrow.Author.Tests.{eq-eqb, ne_eqb}
use Rattle.theory.specs.Words.{inv}
use Rattle.theory.specs.Tables.{absent, Cells, Leads, Steps}
use Rattle.theory.proofs.WordLaws.{letters}
use Rattle.theory.proofs.GraphLaws.{Turns}
use Rattle.engine.specs.Cells.{put, linked, unlinked}

-- ── Letters ──

-- no letter is its own inverse
pub inv_apart : (y : ℕ) → inv y ≡ y → ⊥
unfolding inv
inv_apart y e = omega arith

-- the inverse letter's inverse is the letter
pub inv_twice : (y : ℕ) → inv (inv y) ≡ y
inv_twice y = letters.twice y

-- letters with equal inverses are equal
pub inv_same : (y z : ℕ) → inv y ≡ inv z → y ≡ z
inv_same y z e = sym (inv_twice y) ∙ ap inv e ∙ inv_twice z

-- ── The store law ──

-- a stored cell holds what was put there, and every other what it held
pub put_law : (P : ℕ → Type 0) (c : Cells) (v y x u z : ℕ) → ((u ≡ v) → (z ≡ y) → P x)
    → (((u ≡ v) → (z ≡ y) → ⊥) → P (c u z)) → P (put c v y x u z)
unfolding put
put_law P c v y x u z f g =
    by_cases (ℕ_discrete u v)
    (λ e. by_cases (ℕ_discrete z y) (λ d. rw (eq-eqb u v e, eq-eqb z y d) (f e d))
    (λ d. rw (eq-eqb u v e, ne_eqb z y d) (g (λ a b. d b))))
    (λ e. rw (ne_eqb u v e) (g (λ a b. e a)))

-- a stored cell holds what was put there
pub put_same : (c : Cells) (v y x : ℕ) → put c v y x v y ≡ x
put_same c v y x = put_law (λ q. q ≡ x) c v y x v y (λ a b. refl) (λ n. absurd (n refl refl))

-- every other cell holds what it held
pub put_other : (c : Cells) (v y x u z : ℕ) → ((u ≡ v) → (z ≡ y) → ⊥) → put c v y x u z ≡ c u z
put_other c v y x u z n = put_law (λ q. q ≡ c u z) c v y x u z (λ a b. absurd (n a b)) (λ m. refl)

-- ── Links ──

-- a step is one of the two readings of the edge from a by y to b
abbrev pub IsEdge : ℕ → ℕ → ℕ → Steps
IsEdge a y b v z x = ((v ≡ a) × (z ≡ y) × (x ≡ b)) ⊎ ((v ≡ b) × (z ≡ inv y) × (x ≡ a))

-- the edge read backwards is the edge
pub edge_turn : (a y b : ℕ) → Turns (IsEdge a y b)
edge_turn a y b v z x s =
    ⊎_elim (λ h. inr (h.2, ap inv h.1, h.0)) (λ h. inl (h.2, ap inv h.1 ∙ inv_twice y, h.0)) s

-- the linked edge reads
pub linked_there : (c : Cells) (a y b : ℕ) → linked c a y b a y ≡ b
unfolding linked
linked_there c a y b =
    put_other (put c a y b) b (inv y) a a y (λ e d. inv_apart y (sym d)) ∙ put_same c a y b

-- the linked edge reads backwards
pub linked_back : (c : Cells) (a y b : ℕ) → linked c a y b b (inv y) ≡ a
unfolding linked
linked_back c a y b = put_same (put c a y b) b (inv y) a

-- cells off the edge are kept
pub linked_other : (c : Cells) (a y b v z : ℕ) → ((v ≡ a) → (z ≡ y) → ⊥) → ((v ≡ b) → (z ≡ inv y) → ⊥)
    → linked c a y b v z ≡ c v z
unfolding linked
linked_other c a y b v z n m = put_other (put c a y b) b (inv y) a v z m ∙ put_other c a y b v z n

-- what reads after a link is the new edge, or read before
pub linked_cases : (c : Cells) (a y b v z x : ℕ) → Leads (linked c a y b) v z x → IsEdge a y b v z x ⊎ Leads c v z x
unfolding linked
linked_cases c a y b v z x l =
    put_law (λ q. (q ≡ x) → IsEdge a y b v z x ⊎ Leads c v z x) (put c a y b) b (inv y) a v z
    (λ e d q. inl (inr (e, d, sym q)))
    (λ n. put_law (λ q. (q ≡ x) → IsEdge a y b v z x ⊎ Leads c v z x) c a y b v z (λ e d q. inl (inl (e, d, sym q)))
    (λ m q. inr (q, l.1)))
    l.0

-- a link of free cells takes no edge away
pub linked_kept : (c : Cells) (a y b v z x : ℕ) → c a y ≡ absent → c b (inv y) ≡ absent → Leads c v z x
    → Leads (linked c a y b) v z x
linked_kept c a y b v z x f g l = (
  linked_other c a y b v z (λ e d. l.1 (sym l.0 ∙ ap (c v) d ∙ ap (λ p. c p y) e ∙ f))
      (λ e d. l.1 (sym l.0 ∙ ap (c v) d ∙ ap (λ p. c p (inv y)) e ∙ g))
      ∙ l.0,
  l.1,
)

-- both readings of the new edge
pub linked_edge : (c : Cells) (a y b v z x : ℕ) → (a ≡ absent → ⊥) → (b ≡ absent → ⊥) → IsEdge a y b v z x
    → Leads (linked c a y b) v z x
linked_edge c a y b v z x na nb s =
    ⊎_elim
    (λ h. subst₃ (Leads (linked c a y b)) (sym h.0) (sym h.1) (sym h.2) (linked_there c a y b, nb))
    (λ h. subst₃ (Leads (linked c a y b)) (sym h.0) (sym h.1) (sym h.2) (linked_back c a y b, na)) s

-- a link of free cells keeps the inverse law
pub linked_turn : (c : Cells) (a y b : ℕ) → (a ≡ absent → ⊥) → (b ≡ absent → ⊥) → c a y ≡ absent → c b (inv y) ≡ absent
    → Turns (Leads c) → Turns (Leads (linked c a y b))
linked_turn c a y b na nb f g turn v z x l =
    ⊎_elim (λ s. linked_edge c a y b x (inv z) v na nb (edge_turn a y b v z x s))
    (λ m. linked_kept c a y b x (inv z) v f g (turn v z x m)) (linked_cases c a y b v z x l)

-- ── Unlinks ──

module _ (c : Cells) (v y : ℕ) where
  -- the cell of the edge is empty
  pub unlinked_there : unlinked c v y v y ≡ absent
  unfolding unlinked
  unlinked_there = put_same (put c (c v y) (inv y) absent) v y absent

  -- what reads after an unlink read before, and is none of the edge's two readings
  pub unlinked_leads : (u z x : ℕ) → Leads (unlinked c v y) u z x
      → Leads c u z x × ((u ≡ v) → (z ≡ y) → ⊥) × ((u ≡ c v y) → (z ≡ inv y) → ⊥)
  unfolding unlinked
  unlinked_leads u z x l =
      put_law (λ q. (q ≡ x) → Goal) (put c (c v y) (inv y) absent) v y absent u z (λ a b e. absurd (l.1 (sym e)))
      (λ n. put_law (λ q. (q ≡ x) → Goal) c (c v y) (inv y) absent u z (λ a b e. absurd (l.1 (sym e)))
      (λ m e. ((e, l.1), n, m)))
      l.0
    where
      Goal : Type 0
      Goal = Leads c u z x × ((u ≡ v) → (z ≡ y) → ⊥) × ((u ≡ c v y) → (z ≡ inv y) → ⊥)

  -- cells off the edge are kept
  pub unlinked_other : (u z : ℕ) → ((u ≡ v) → (z ≡ y) → ⊥) → ((u ≡ c v y) → (z ≡ inv y) → ⊥)
      → unlinked c v y u z ≡ c u z
  unfolding unlinked
  unlinked_other u z n m =
      put_other (put c (c v y) (inv y) absent) v y absent u z n ∙ put_other c (c v y) (inv y) absent u z m

  -- what is absent stays absent
  pub unlinked_absent : (u z : ℕ) → c u z ≡ absent → unlinked c v y u z ≡ absent
  unfolding unlinked
  unlinked_absent u z e =
      put_law (λ q. q ≡ absent) (put c (c v y) (inv y) absent) v y absent u z (λ a b. refl)
      (λ n. put_law (λ q. q ≡ absent) c (c v y) (inv y) absent u z (λ a b. refl) (λ m. e))

  -- what read before an unlink is the edge that went, or reads still
  pub unlinked_cases : Turns (Leads c) → (u z x : ℕ) → (c v y ≡ absent → ⊥) → Leads c u z x
      → IsEdge v y (c v y) u z x ⊎ Leads (unlinked c v y) u z x
  unlinked_cases turn u z x n l =
      by_cases (ℕ_discrete u v)
      (λ e. by_cases (ℕ_discrete z y) (λ d. inl (inl (e, d, sym l.0 ∙ ap (c u) d ∙ ap (λ p. c p y) e)))
      (λ d. other (λ a b. d b)))
      (λ e. other (λ a b. e a))
    where
      back : Leads c (c v y) (inv y) v
      back = turn v y (c v y) (refl, n)

      other : ((u ≡ v) → (z ≡ y) → ⊥) → IsEdge v y (c v y) u z x ⊎ Leads (unlinked c v y) u z x
      other m =
          by_cases (ℕ_discrete u (c v y))
          (λ e. by_cases (ℕ_discrete z (inv y))
          (λ d. inl (inr (e, d, sym l.0 ∙ ap (c u) d ∙ ap (λ p. c p (inv y)) e ∙ back.0)))
          (λ d. inr (unlinked_other u z m (λ a b. d b) ∙ l.0, l.1)))
          (λ e. inr (unlinked_other u z m (λ a b. e a) ∙ l.0, l.1))

  -- an unlink keeps the inverse law
  pub unlinked_turn : (c v y ≡ absent → ⊥) → Turns (Leads c) → Turns (Leads (unlinked c v y))
  unlinked_turn n turn u z x l =
      let h = unlinked_leads u z x l in
      ⊎_elim (λ s. gone h (edge_turn v y (c v y) x (inv z) u s)) (λ m. m)
      (unlinked_cases turn x (inv z) u n (turn u z x h.0))
    where
      gone : Leads c u z x × ((u ≡ v) → (z ≡ y) → ⊥) × ((u ≡ c v y) → (z ≡ inv y) → ⊥)
          → IsEdge v y (c v y) u (inv (inv z)) x → Leads (unlinked c v y) x (inv z) u
      gone h s =
          ⊎_elim (λ k. absurd (h.1 k.0 (sym (inv_twice z) ∙ k.1))) (λ k. absurd (h.2 k.0 (sym (inv_twice z) ∙ k.1))) s
