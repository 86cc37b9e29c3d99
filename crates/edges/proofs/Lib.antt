-- Laws of this crate's steps and of its sweeps, a file a notion.
pub mod StepLaws
pub mod TallyLaws
pub mod MarkLaws
