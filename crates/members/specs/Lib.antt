pub mod Readings
pub mod Members
pub mod Stages
