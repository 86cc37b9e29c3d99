-- Edges in lent cells.
pub mod LinkLaws
pub mod Determined
