pub mod Hex
pub mod Frames
pub mod Spelled
pub mod Spelling
pub mod Lines
pub mod Lined
pub mod Reading
pub mod Written
