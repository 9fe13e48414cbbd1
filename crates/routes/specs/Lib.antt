pub mod Fits
pub mod Table
pub mod Entries
pub mod Map
