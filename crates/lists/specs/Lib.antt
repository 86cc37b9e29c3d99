pub mod Scans
pub mod Counts
pub mod Shorter
