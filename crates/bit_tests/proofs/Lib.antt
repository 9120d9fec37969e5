pub mod Batches
pub mod Switching
