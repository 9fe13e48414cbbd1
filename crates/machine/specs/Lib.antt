pub mod Listed
pub mod Fitting
pub mod Standing
pub mod Sending
pub mod Machines
