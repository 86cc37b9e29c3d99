pub mod Splices
pub mod Reads
pub mod Kinds
