pub mod Maps
pub mod Normals
