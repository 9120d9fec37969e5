pub mod Begun
pub mod Progress
pub mod Queries
pub mod Reading
pub mod Stops
pub mod Verdict
