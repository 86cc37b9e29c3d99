-- Folding a list on lent cells: the turns of its loops, what its contract fixes, shuts out and gives.
pub mod WordsTurn
pub mod BuildLaws
pub mod LentLaws
pub mod CauseLaws
pub mod Folds
pub mod Determined
pub mod Refuted
