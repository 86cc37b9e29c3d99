-- One word taken in on lent cells.
pub mod ReadTurn
pub mod ChainTurn
pub mod TakeTurn
pub mod Determined
