-- What the exported functions promise: the reply is that of an answer that the function behind promises, with its cells.
--   FoldReplied, AskReplied        <-> of `fold` and `ask`
--   CheckReplied .. SaveTableReplied <-> of `check`, `member`, `equal`, `normal`, `express`, `basis` and `save_table`, on lent tables
--   SaveListReplied, LoadReplied   <-> of `save_list` and `load`
--   ShorterReplied                 <-> the reply names the list that `shorter` hands back
-- Assumes nothing.
use Rattle.std.specs.Prelude.{◌≡◌, Bool, List, ℕ, ℤ}
use Rattle.std.specs.declared.option.Option.{Option}
use Rattle.std.specs.declared.result.Result.{Result}
use Rattle.refusals.specs.declared.Refusal.{Refusal}
use Rattle.lists.specs.declared.TextSize.{TextSize}
use Rattle.tables.specs.declared.Figures.{Figures}
use Rattle.folds.specs.declared.FoldFigures.{FoldFigures}
use Rattle.lists.specs.Shorter.{which_of}
use Rattle.tables.specs.Checks.{CheckOutcome}
use Rattle.folds.specs.Folds.{FoldOutcome}
use Rattle.members.specs.Members.{MemberOutcome}
use Rattle.asks.specs.Asks.{AskOutcome}
use Rattle.equals.specs.Equals.{EqualOutcome}
use Rattle.bases.specs.Bases.{BasisOutcome}
use Rattle.normals.specs.Normals.{NormalOutcome}
use Rattle.expressions.specs.Expressions.{ExpressOutcome}
use Rattle.saves.specs.Saves.{SaveTableOutcome, SaveListOutcome}
use Rattle.loads.specs.declared.Loaded.{Loaded}
use Rattle.loads.specs.Loads.{LoadOutcome}
use Rattle.subgroups.specs.declared.FoldReply.{FoldReply}
use Rattle.subgroups.specs.declared.CheckReply.{CheckReply}
use Rattle.subgroups.specs.declared.YesReply.{YesReply}
use Rattle.subgroups.specs.declared.ExpressReply.{ExpressReply}
use Rattle.subgroups.specs.declared.WrittenReply.{WrittenReply}
use Rattle.subgroups.specs.declared.LoadReply.{LoadReply}
use Rattle.subgroups.specs.declared.PartReply.{PartReply}
use Rattle.subgroups.specs.Replies.{reply_of, checked_reply, yes_reply, expressed_reply, basis_reply, saved_reply, loaded_reply, handed_reply}

abbrev pub FoldReplied : ℕ → List ℕ → List ℕ → List ℕ → FoldReply → List ℕ → List ℕ → Type 0
FoldReplied n list table work r table' work' = (o : Result FoldFigures Refusal) × FoldOutcome n list table work o table' work' × (r ≡ reply_of o)

abbrev pub AskReplied : ℕ → List ℕ → List ℕ → List ℕ → List ℕ → YesReply → List ℕ → List ℕ → Type 0
AskReplied n list query table work r table' work' =
    (a : Result Bool Refusal) × AskOutcome n list query table work a table' work' × (r ≡ yes_reply a)

abbrev pub CheckReplied : ℕ → ℕ → List ℕ → CheckReply → Type 0
CheckReplied n N t r = (c : Result Figures Refusal) × CheckOutcome n N t c × (r ≡ checked_reply c)

abbrev pub MemberReplied : ℕ → ℕ → List ℕ → List ℕ → List ℕ → YesReply → List ℕ → Type 0
MemberReplied n N t query work r work' = (a : Result Bool Refusal) × MemberOutcome n N t query work a work' × (r ≡ yes_reply a)

abbrev pub EqualReplied : ℕ → ℕ → List ℕ → ℕ → ℕ → List ℕ → YesReply → Type 0
EqualReplied n N t m M s r = (e : Result Bool Refusal) × EqualOutcome n N t m M s e × (r ≡ yes_reply e)

abbrev pub BasisReplied : ℕ → ℕ → List ℕ → List ℕ → List ℕ → WrittenReply → List ℕ → List ℕ → Type 0
BasisReplied n N t work out r work' out' = (a : Result TextSize Refusal) × BasisOutcome n N t work out a work' out' × (r ≡ basis_reply a)

abbrev pub SaveTableReplied : ℕ → ℕ → List ℕ → List ℕ → WrittenReply → List ℕ → Type 0
SaveTableReplied n N t out r out' = (s : Result ℕ Refusal) × SaveTableOutcome n N t out s out' × (r ≡ saved_reply s)

abbrev pub NormalReplied : ℕ → ℕ → List ℕ → List ℕ → YesReply → List ℕ → Type 0
NormalReplied n N t work r work' = (j : Result Bool Refusal) × NormalOutcome n N t work j work' × (r ≡ yes_reply j)

abbrev pub ExpressReplied : ℕ → ℕ → List ℕ → List ℕ → List ℕ → List ℤ → ExpressReply → List ℕ → List ℤ → Type 0
ExpressReplied n N t query work out r work' out' =
    (e : Result (Option ℕ) Refusal) × ExpressOutcome n N t query work out e work' out' × (r ≡ expressed_reply e)

abbrev pub SaveListReplied : ℕ → List ℕ → List ℕ → WrittenReply → List ℕ → Type 0
SaveListReplied n list out r out' = (s : Result ℕ Refusal) × SaveListOutcome n list out s out' × (r ≡ saved_reply s)

abbrev pub LoadReplied : List ℕ → List ℕ → List ℕ → LoadReply → List ℕ → List ℕ → Type 0
LoadReplied file table text r table' text' = (l : Result Loaded Refusal) × LoadOutcome file table text l table' text' × (r ≡ loaded_reply l)

abbrev pub ShorterReplied : ℕ → List ℕ → List ℕ → PartReply → Type 0
ShorterReplied n a b r = r ≡ handed_reply (which_of n a b) a b
