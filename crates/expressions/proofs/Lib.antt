-- Laws of this crate, a file a notion.
pub mod SignLaws
pub mod PlaceLaws
pub mod WalkTurn
pub mod AnswerLaws
pub mod Refusals
pub mod Expressions
pub mod Determined
pub mod Refuted
