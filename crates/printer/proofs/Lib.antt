-- Laws of what is printed and of the cells that are left, and what the contracts fix.
mod PrintLaws
pub mod LentLaws
pub mod Determined
