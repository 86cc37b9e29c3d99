pub mod Lent
pub mod Walks
pub mod Checks
pub mod Cells
