pub mod Modulo
pub mod Decided
pub mod Waves
pub mod Diagonals
pub mod Rows
pub mod Fronts
pub mod Walks
