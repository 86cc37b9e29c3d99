pub mod Runs
pub mod Saves
