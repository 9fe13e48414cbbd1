pub mod Header
pub mod Layout
pub mod Reading
pub mod Rewriting
