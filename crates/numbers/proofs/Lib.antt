-- Laws of the file's numbers, a file a notion.
pub mod NumberLaws
pub mod SpliceLaws
pub mod WriteTurn
pub mod ReadTurn
pub mod Numbers
