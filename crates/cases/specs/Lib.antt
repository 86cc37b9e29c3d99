pub mod Printed
pub mod Claims
pub mod Cases
