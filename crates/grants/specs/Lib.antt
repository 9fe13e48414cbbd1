pub mod PortCounts
pub mod Cell
pub mod Diagonal
pub mod Ripple
