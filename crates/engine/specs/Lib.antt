pub mod Cells
pub mod Roots
pub mod Engine
pub mod Work
pub mod Points
pub mod Stages
pub mod Numbering
