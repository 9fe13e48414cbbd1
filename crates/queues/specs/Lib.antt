pub mod BlockList
pub mod Linked
pub mod Queues
pub mod Calls
pub mod Queue
pub mod Moves
pub mod Runs
