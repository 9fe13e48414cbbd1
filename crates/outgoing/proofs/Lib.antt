pub mod Places
pub mod Restoring
