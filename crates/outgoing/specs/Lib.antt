pub mod Headers
pub mod Look
pub mod Results
pub mod SlotBytes
