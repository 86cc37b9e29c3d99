-- The turns of `read_front` and `read_back` on plain values: what is still to be read from the point v.
--   Front c w made v i <-> the first i letters of w are read; front_next, front_stop, front_done
--   Back c w made v t  <-> the letters t, with which w begins, are not read yet; back_first, back_asks, back_next, back_stop, back_done
-- Assumes nothing.
use mathlib.Core.Path.{◌≡◌, refl, sym, ◌∙◌, ap, subst}
use mathlib.Core.List.{List, [], ◌∷◌, ◌++◌}
use Prim.Native.Nat.{ℕ, ◌+◌, ◌*◌, ◌≤◌, ◌<◌}
use native.Mathlib.Omega.{arith}
use lib.ListN.{length, get_or, take, drop, length-take}
use lib.Seq.{take-length, take-append_seam, drop-length, get_or-take}
use Rattle.std.proofs.lemmas.List.{take-take, length_push, get_or_push, drop_more, drop_all, nil_from_length}
use Rattle.theory.specs.Words.{inv, inverse_by, inverse_of}
use Rattle.theory.specs.Tables.{absent, Cells, cell}
use Rattle.theory.proofs.WordLaws.{letters, inverse_append, inverse_inverse}
use Rattle.engine.specs.Engine.{ahead}
use Rattle.engine.proofs.TakeLaws.{ahead_on, ahead_stop, behind_on}
use Rattle.rooms.specs.declared.Room.{Room}
use Rattle.links.specs.Links.{InTable}
use Rattle.links.proofs.LinkLaws.{back_in}
use Rattle.takes.specs.Readings.{Readable, FrontOf, BackOf}

pub record Front (c : Cells) (w : List ℕ) (made v i : ℕ) : Type 0 where
  pub here : v < made
  pub left : ahead c 0 w ≡ ahead c v (drop i w)

pub record Back (c : Cells) (w : List ℕ) (made v : ℕ) (t : List ℕ) : Type 0 where
  pub here : v < made
  pub begins : take (length t) w ≡ t
  pub left : ahead c 0 (inverse_of w) ≡ ahead c v (inverse_of t)

module _ {r : Room} {table w : List ℕ} (h : Readable r table w) where
  abbrev c : Cells
  c = cell r.n r.rows table

  pub back_first : {t : List ℕ} → t ≡ w → Back c w r.made 0 t
  back_first {t} e =
      record {
        here = h.base;
        begins = ap (λ u. take (length u) w) e ∙ take-length w ∙ sym e;
        left = ap (λ u. ahead c 0 (inverse_of u)) (sym e);
      }

  module _ {v : ℕ} where
    -- ── Forward ──

    module _ {i : ℕ} (f : Front c w r.made v i) where
      module _ {x : ℕ} (l : i < length w) (e : x ≡ c v (get_or w i 0)) where
        pub front_next : (x ≡ absent → ⊥) → Front c w r.made x (i + 1)
        front_next n =
            record {
              here = h.named v (get_or w i 0) x (sym e, n);
              left = f.left ∙ ap (ahead c v) (drop_more w i 0 l) ∙ ahead_on c v (get_or w i 0) (drop (i + 1) w) x (sym e, n);
            }

        pub front_stop : x ≡ absent → FrontOf c w (record { point = v; count = i })
        front_stop d =
            let q = f.left ∙ ap (ahead c v) (drop_more w i 0 l) ∙ ahead_stop c v (get_or w i 0) (drop (i + 1) w) (sym e ∙ d) in
            record {
              point = sym (ap (λ a. a.point) q);
              inside = omega arith;
              rest = drop_more w i 0 l ∙ sym (ap (λ a. a.rest) q);
            }

      pub front_done : length w ≤ i → FrontOf c w (record { point = v; count = length w })
      unfolding ahead
      front_done l =
          record { point = sym (ap (λ a. a.point) q); inside = omega arith; rest = drop-length w ∙ sym (ap (λ a. a.rest) q) }
        where
          q : ahead c 0 w ≡ record { point = v; rest = [] }
          q = f.left ∙ ap (ahead c v) (drop_all i w l)

    -- ── Backward ──

    module _ {t : List ℕ} (f : Back c w r.made v t) where
      -- the result, where reading stops with the letters t left
      back_of : ahead c v (inverse_of t) ≡ record { point = v; rest = inverse_of t } → BackOf c w (record { point = v; count = length t })
      back_of e =
          let q = f.left ∙ e in
          record {
            point = sym (ap (λ a. a.point) q);
            inside = omega (arith, ap length f.begins, length-take (length t) w);
            rest = f.begins ∙ sym (ap inverse_of (ap (λ a. a.rest) q) ∙ inverse_inverse letters t);
          }

      -- the next letter y
      module _ (u : List ℕ) (y : ℕ) (more : t ≡ u ++ (y ∷ [])) where
        longer : length t ≡ length u + 1
        longer = ap length more ∙ length_push u y

        letter : get_or w (length u) 0 ≡ y
        letter =
            sym (get_or-take (length t) w (length u) 0 (omega (arith, longer))) ∙ ap (λ l. get_or l (length u) 0) (f.begins ∙ more)
            ∙ get_or_push u y 0 (length u) refl

        pub back_asks : {z : ℕ} → z ≡ inv y → InTable r table v z
        back_asks e = back_in here refl (omega (arith, f.here, h.inside)) e
          where
            here : InTable r table v y
            here =
                record {
                  most = h.most;
                  row = omega (arith, f.here, h.inside);
                  letter = subst (λ k. k < 2 * r.n) letter
                      (h.letters (length u) (omega (arith, longer, ap length f.begins, length-take (length t) w)));
                  lent = h.lent;
                }

        module _ {z x : ℕ} (e : z ≡ inv y) (d : x ≡ c v z) where
          at : x ≡ c v (inv y)
          at = d ∙ ap (c v) e

          pub back_next : (x ≡ absent → ⊥) → Back c w r.made x u
          back_next n =
              record {
                here = h.named v z x (sym d, n);
                begins = sym (take-take (length u) (length t) w (omega (arith, longer))) ∙ ap (take (length u)) (f.begins ∙ more) ∙ take-append_seam u (y ∷ []);
                left = f.left ∙ ap (λ l. ahead c v (inverse_of l)) more ∙ behind_on c v y u x (sym at, n);
              }

          pub back_stop : {i : ℕ} → i ≡ length u → x ≡ absent → BackOf c w (record { point = v; count = i + 1 })
          unfolding inverse_by
          back_stop {i} k a =
              let turned = ap inverse_of more ∙ inverse_append letters u (y ∷ []) in
              subst (λ j. BackOf c w (record { point = v; count = j })) (longer ∙ ap (λ j. j + 1) (sym k))
              (back_of (ap (ahead c v) turned ∙ ahead_stop c v (inv y) (inverse_of u) (sym at ∙ a) ∙ ap (λ l. record { point = v; rest = l }) (sym turned)))

      pub back_done : length t ≡ 0 → BackOf c w (record { point = v; count = 0 })
      unfolding ahead inverse_by
      back_done e =
          subst (λ j. BackOf c w (record { point = v; count = j })) e
          (back_of (subst (λ l. ahead c v (inverse_of l) ≡ record { point = v; rest = inverse_of l }) (sym (nil_from_length t e)) refl))
