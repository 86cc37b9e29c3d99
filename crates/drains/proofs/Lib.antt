-- Draining on lent cells.
pub mod ClearTurn
pub mod DrainTurn
pub mod Determined
