-- The turns of `cells`.
pub mod CellsTurn
