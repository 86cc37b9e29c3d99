-- Laws of this crate's steps and of its pass, a file a notion.
pub mod NoteLaws
pub mod MetLaws
pub mod PathTurn
pub mod Determined
