pub mod Channels
pub mod Flushes
