pub mod Among
pub mod Changes
pub mod Counting
pub mod Lookups
pub mod Outcomes
pub mod Lifting
