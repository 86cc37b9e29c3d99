-- The steps of the walk and of the check on plain values, what a walk tells its callers, and that the public contracts fix
-- their outcome.
pub mod LentLaws
pub mod CellTurn
pub mod ScanLaws
pub mod WalkTurn
pub mod WalkLaws
pub mod CheckTurn
pub mod Determined
pub mod Refuted
