pub mod Readings
pub mod Chains
pub mod Takes
