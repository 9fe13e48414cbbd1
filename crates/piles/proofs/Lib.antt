pub mod Bottoms
pub mod Deeper
