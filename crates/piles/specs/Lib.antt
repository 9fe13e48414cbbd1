pub mod Fits
pub mod Three
pub mod Deep
