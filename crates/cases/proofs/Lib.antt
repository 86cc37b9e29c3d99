pub mod CaseLaws
pub mod ExamplesHold
