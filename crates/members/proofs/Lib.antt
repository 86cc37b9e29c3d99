-- Laws of this crate's loops and answers, a file a notion.
pub mod ReadTurn
pub mod AnswerLaws
pub mod Members
pub mod Determined
pub mod Refuted
