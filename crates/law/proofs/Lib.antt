pub mod Refusing
mod Histories
mod Counts
mod Grants
mod Invariant
mod Besides
pub mod Blocks
mod Decides
mod Arrives
mod Departs
mod Steps
pub mod Pairs
pub mod Whole
