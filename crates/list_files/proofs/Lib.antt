-- Laws of a list in a file, a file a notion.
pub mod WordLaws
pub mod SkipTurn
pub mod PutTurn
pub mod ReadLaws
pub mod Determined
