-- The turns of loops and the stages of scans on plain values, and that the public contracts fix their outcome.
pub mod ScanTurn
pub mod CountTurn
pub mod StartTurn
pub mod Determined
pub mod Refuted
