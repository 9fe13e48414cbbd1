pub mod Bits
pub mod Within
pub mod PortSets
pub mod Tables
pub mod Sizes
pub mod Lists
pub mod Somes
pub mod Spreading
