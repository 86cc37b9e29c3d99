pub mod Expressions
pub mod Places
pub mod Parts
