pub mod Delays
pub mod Piles
pub mod Leaving
