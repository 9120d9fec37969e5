pub mod Crossing
pub mod Switching
