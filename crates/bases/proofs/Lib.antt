-- Laws of this crate, a file a notion.
pub mod ChainLaws
pub mod SpotLaws
pub mod PathedLaws
pub mod SumLaws
pub mod AnswerLaws
pub mod Bases
pub mod Determined
pub mod Refuted
