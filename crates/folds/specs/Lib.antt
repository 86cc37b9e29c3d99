pub mod Causes
pub mod Folds
pub mod Rows
