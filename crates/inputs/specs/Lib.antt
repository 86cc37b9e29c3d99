pub mod Inputs
pub mod Parsed
