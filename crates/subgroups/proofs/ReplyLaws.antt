-- Laws of replies on plain values.
--   same_reply : replies of the same answer are the same
-- Assumes nothing.
use mathlib.Core.Path.{◌≡◌, sym, ◌∙◌, ap}

pub same_reply : {A R : Type 0} (reply : A → R) {a b : A} {r s : R} → r ≡ reply a → s ≡ reply b → a ≡ b → r ≡ s
same_reply reply h k e = h ∙ ap reply e ∙ sym k
