pub mod Reserving
pub mod Ranges
