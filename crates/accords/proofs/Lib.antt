-- What several functions say of one another, a file a pair.
pub mod FoldedTables
pub mod FoldEquals
pub mod BasisFolds
pub mod AskMembers
pub mod TextsBack
pub mod WordsBack
pub mod CellsBack
pub mod HeadsBack
pub mod SavedFiles
pub mod FilesBack
pub mod RefusedFirst
