-- Laws of the decimal digits, computed cases, and the turns of loops on plain values.
pub mod DecimalLaws
pub mod Cases
pub mod CountTurn
pub mod WriteTurn
