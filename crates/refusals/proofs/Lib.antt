-- Laws of a refusal as code holds it.
pub mod UnlessLaws
pub mod StageLaws
pub mod NumberLaws
