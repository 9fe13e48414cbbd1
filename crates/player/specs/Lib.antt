pub mod Written
pub mod Playing
pub mod Recording
pub mod Players
pub mod Answering
