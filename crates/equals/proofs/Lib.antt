-- Laws of this crate's comparison and answers, a file a notion.
pub mod CellsTurn
pub mod EqualLaws
pub mod Equals
pub mod Determined
pub mod Refuted
