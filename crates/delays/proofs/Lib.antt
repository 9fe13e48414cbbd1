mod Acceptances
pub mod Asking
pub mod Leaving
