-- The laws of `filled`.
pub mod FillTurn
