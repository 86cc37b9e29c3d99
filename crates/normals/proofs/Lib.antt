-- Laws of this crate, a file a notion.
pub mod BackLaws
pub mod CarryLaws
pub mod MapTurn
pub mod BaseTurn
pub mod AnswerLaws
pub mod Determined
pub mod Refuted
