-- Laws of loading, a file a notion.
pub mod LoadLaws
pub mod Determined
pub mod StandLaws
pub mod Events
pub mod FirstCauses
pub mod Steps
pub mod TableSteps
pub mod ListSteps
pub mod Refusals
pub mod Loads
pub mod Refuted
