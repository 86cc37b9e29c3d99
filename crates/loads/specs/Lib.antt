pub mod Loads
pub mod Causes
