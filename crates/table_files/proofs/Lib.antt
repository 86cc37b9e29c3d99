-- Laws of a table in a file, a file a notion.
pub mod CellsTurn
pub mod ReadLaws
