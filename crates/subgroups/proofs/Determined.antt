-- The contracts of the exported functions fix their replies.
--   .._reply_determined : two replies that conform on one input are equal, and so are the cells
-- Each follows from the function behind (`same_reply`). Assumes nothing.
use mathlib.Core.Path.{◌≡◌, sym, ◌∙◌}
use mathlib.Core.List.{List}
use Prim.Native.Nat.{ℕ}
use lib.IntN.{ℤ}
use Rattle.folds.proofs.Determined.{fold_determined}
use Rattle.asks.proofs.Determined.{ask_determined}
use Rattle.tables.proofs.Determined.{check_determined}
use Rattle.members.proofs.Determined.{member_determined}
use Rattle.equals.proofs.Determined.{equal_determined}
use Rattle.bases.proofs.Determined.{basis_determined}
use Rattle.normals.proofs.Determined.{normal_determined}
use Rattle.expressions.proofs.Determined.{express_determined}
use Rattle.saves.proofs.Determined.{save_table_determined, save_list_determined}
use Rattle.loads.proofs.Determined.{load_determined}
use Rattle.subgroups.specs.declared.FoldReply.{FoldReply}
use Rattle.subgroups.specs.declared.CheckReply.{CheckReply}
use Rattle.subgroups.specs.declared.YesReply.{YesReply}
use Rattle.subgroups.specs.declared.ExpressReply.{ExpressReply}
use Rattle.subgroups.specs.declared.WrittenReply.{WrittenReply}
use Rattle.subgroups.specs.declared.LoadReply.{LoadReply}
use Rattle.subgroups.specs.declared.PartReply.{PartReply}
use Rattle.subgroups.specs.Replies.{reply_of, checked_reply, yes_reply, expressed_reply, basis_reply, saved_reply, loaded_reply}
use Rattle.subgroups.specs.Outcomes.{FoldReplied, AskReplied, CheckReplied, MemberReplied, EqualReplied, NormalReplied, ExpressReplied, BasisReplied, SaveTableReplied, SaveListReplied, LoadReplied, ShorterReplied}
use Rattle.subgroups.proofs.ReplyLaws.{same_reply}

pub fold_reply_determined : (n : ℕ) (list table work : List ℕ) {r s : FoldReply} {table₁ work₁ table₂ work₂ : List ℕ}
    → FoldReplied n list table work r table₁ work₁ → FoldReplied n list table work s table₂ work₂
    → (r ≡ s) × (table₁ ≡ table₂) × (work₁ ≡ work₂)
fold_reply_determined n list table work h k =
    let same = fold_determined n list table work h.1 k.1 in
    (same_reply reply_of h.2 k.2 same.0, same.1, same.2)

pub ask_reply_determined : (n : ℕ) (list query table work : List ℕ) {r s : YesReply} {table₁ work₁ table₂ work₂ : List ℕ}
    → AskReplied n list query table work r table₁ work₁ → AskReplied n list query table work s table₂ work₂
    → (r ≡ s) × (table₁ ≡ table₂) × (work₁ ≡ work₂)
ask_reply_determined n list query table work h k =
    let same = ask_determined n list query table work h.1 k.1 in
    (same_reply yes_reply h.2 k.2 same.0, same.1, same.2)

pub check_reply_determined : (n N : ℕ) (t : List ℕ) {r s : CheckReply} → CheckReplied n N t r → CheckReplied n N t s → r ≡ s
check_reply_determined n N t h k = same_reply checked_reply h.2 k.2 (check_determined n N t h.0 k.0 h.1 k.1)

pub member_reply_determined : (n N : ℕ) (t query work : List ℕ) {r s : YesReply} {work₁ work₂ : List ℕ}
    → MemberReplied n N t query work r work₁ → MemberReplied n N t query work s work₂ → (r ≡ s) × (work₁ ≡ work₂)
member_reply_determined n N t query work {r} {s} {work₁} {work₂} h k =
    let same = member_determined n N t query work h.0 k.0 work₁ work₂ h.1 k.1 in
    (same_reply yes_reply h.2 k.2 same.0, same.1)

pub equal_reply_determined : (n N : ℕ) (t : List ℕ) (m M : ℕ) (u : List ℕ) {r s : YesReply}
    → EqualReplied n N t m M u r → EqualReplied n N t m M u s → r ≡ s
equal_reply_determined n N t m M u h k =
    same_reply yes_reply h.2 k.2 (equal_determined n N t m M u h.0 k.0 h.1 k.1)

pub basis_reply_determined : (n N : ℕ) (t work out : List ℕ) {r s : WrittenReply} {work₁ out₁ work₂ out₂ : List ℕ}
    → BasisReplied n N t work out r work₁ out₁ → BasisReplied n N t work out s work₂ out₂
    → (r ≡ s) × (work₁ ≡ work₂) × (out₁ ≡ out₂)
basis_reply_determined n N t work out {r} {s} {work₁} {out₁} {work₂} {out₂} h k =
    let same = basis_determined n N t work out h.0 k.0 work₁ work₂ out₁ out₂ h.1 k.1 in
    (same_reply basis_reply h.2 k.2 same.0, same.1, same.2)

pub save_table_reply_determined : (n N : ℕ) (t out : List ℕ) {r s : WrittenReply} {out₁ out₂ : List ℕ}
    → SaveTableReplied n N t out r out₁ → SaveTableReplied n N t out s out₂ → (r ≡ s) × (out₁ ≡ out₂)
save_table_reply_determined n N t out {r} {s} {out₁} {out₂} h k =
    let same = save_table_determined n N t out h.0 k.0 out₁ out₂ h.1 k.1 in
    (same_reply saved_reply h.2 k.2 same.0, same.1)

pub save_list_reply_determined : (n : ℕ) (list out : List ℕ) {r s : WrittenReply} {out₁ out₂ : List ℕ}
    → SaveListReplied n list out r out₁ → SaveListReplied n list out s out₂ → (r ≡ s) × (out₁ ≡ out₂)
save_list_reply_determined n list out {r} {s} {out₁} {out₂} h k =
    let same = save_list_determined n list out h.0 k.0 out₁ out₂ h.1 k.1 in
    (same_reply saved_reply h.2 k.2 same.0, same.1)

pub load_reply_determined : (file table text : List ℕ) {r s : LoadReply} {table₁ text₁ table₂ text₂ : List ℕ}
    → LoadReplied file table text r table₁ text₁ → LoadReplied file table text s table₂ text₂
    → (r ≡ s) × (table₁ ≡ table₂) × (text₁ ≡ text₂)
load_reply_determined file table text {r} {s} {table₁} {text₁} {table₂} {text₂} h k =
    let same = load_determined file table text h.0 k.0 table₁ text₁ table₂ text₂ h.1 k.1 in
    (same_reply loaded_reply h.2 k.2 same.0, same.1, same.2)

pub normal_reply_determined : (n N : ℕ) (t work : List ℕ) {r s : YesReply} {work₁ work₂ : List ℕ}
    → NormalReplied n N t work r work₁ → NormalReplied n N t work s work₂ → (r ≡ s) × (work₁ ≡ work₂)
normal_reply_determined n N t work {r} {s} {work₁} {work₂} h k =
    let same = normal_determined n N t work h.0 k.0 work₁ work₂ h.1 k.1 in
    (same_reply yes_reply h.2 k.2 same.0, same.1)

pub express_reply_determined : (n N : ℕ) (t query work : List ℕ) (out : List ℤ) {r s : ExpressReply} {work₁ work₂ : List ℕ} {out₁ out₂ : List ℤ}
    → ExpressReplied n N t query work out r work₁ out₁ → ExpressReplied n N t query work out s work₂ out₂
    → (r ≡ s) × (work₁ ≡ work₂) × (out₁ ≡ out₂)
express_reply_determined n N t query work out {r} {s} {work₁} {work₂} {out₁} {out₂} h k =
    let same = express_determined n N t query work out h.0 k.0 work₁ work₂ out₁ out₂ h.1 k.1 in
    (same_reply expressed_reply h.2 k.2 same.0, same.1, same.2)

pub shorter_reply_determined : (n : ℕ) (a b : List ℕ) {r s : PartReply} → ShorterReplied n a b r → ShorterReplied n a b s → r ≡ s
shorter_reply_determined n a b h k = h ∙ sym k
