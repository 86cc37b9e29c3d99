pub mod Causes
pub mod Asks
