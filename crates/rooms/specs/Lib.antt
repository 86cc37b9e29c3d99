pub mod Finding
pub mod Uniting
pub mod WorkCells
pub mod Rooms
