-- Laws of saving, a file a notion.
pub mod RunLaws
pub mod HeadLaws
pub mod CellLaws
pub mod WordLaws
pub mod ListLaws
pub mod SaveLaws
pub mod CauseLaws
pub mod Determined
pub mod Refuted
pub mod Saves
pub mod ListFiles
