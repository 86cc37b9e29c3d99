pub mod Paths
pub mod Notes
