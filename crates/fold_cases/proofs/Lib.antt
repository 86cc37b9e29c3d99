-- Laws of stored lists, and what the contract fixes.
pub mod CaseLaws
pub mod Determined
