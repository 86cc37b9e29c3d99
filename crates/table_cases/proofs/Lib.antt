-- Laws of stored cases.
pub mod CaseLaws
