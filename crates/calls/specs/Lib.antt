pub mod Kept
pub mod Ends
