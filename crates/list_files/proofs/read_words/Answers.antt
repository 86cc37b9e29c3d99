-- Behind the refusals the words are listed (ReadLaws).
-- Assumes nothing.
use native.Mathlib.Omega.{arith}
use Rattle.list_files.proofs.ReadLaws.{roomy, words_listed}
use Rattle.list_files.proofs.read_words.Goals as goal

pub returns : goal.returns
returns c =
    let all =
    words_listed _ _ _ _ c.args.text.now _ c.in_ok-place.ensures.passed (omega arith) (omega arith)
    (roomy _ _ _ c.in_ok-check_room.ensures.checked) c.requires.1 c.put_words.ensures.text in
    record { answer = all.0; cells = all.1 }
