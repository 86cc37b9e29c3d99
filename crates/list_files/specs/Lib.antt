pub mod ListFiles
pub mod Parts
