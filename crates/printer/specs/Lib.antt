pub mod LentCells
