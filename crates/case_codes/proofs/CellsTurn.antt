-- A turn of `cells` on plain values: one more code is put.
-- Assumes nothing.
use Rattle.std.proofs.Common.{◌≡◌, ℕ, ◌+◌, ◌≤◌, ◌<◌, List, ◌++◌, map, length, get_or, take, drop, set, ◌∙◌, arith}
use Rattle.std.proofs.lemmas.List.{append_assoc, drop_more, map_more, set_at, length-map, length-take-le}

pub cells_more : (f : ℕ → ℕ) (codes old out : List ℕ) (i x : ℕ) → i < length codes → length codes ≤ length old → out ≡ map f (take i codes) ++ drop i old → x ≡ f (get_or codes i 0) → set out i x ≡ map f (take (i + 1) codes) ++ drop (i + 1) old
cells_more f codes old out i x h k e g =
    let there : i < length old = omega arith in
    let put : length (map f (take i codes)) ≡ i = length-map (take i codes) f ∙ length-take-le i codes (omega arith) in
    rw (e, drop_more old i 0 there, set_at (map f (take i codes)) (get_or old i 0) (drop (i + 1) old) x i put, map_more f codes i 0 h, append_assoc, g)
