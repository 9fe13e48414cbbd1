pub mod View
pub mod Calls
pub mod Runs
pub mod History
pub mod Law
pub mod Texts
