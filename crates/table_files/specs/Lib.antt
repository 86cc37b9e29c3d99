pub mod TableFiles
pub mod Parts
