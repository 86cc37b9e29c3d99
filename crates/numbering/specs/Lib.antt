pub mod Numbered
pub mod Steps
