pub mod Parts
pub mod Fits
pub mod Batching
pub mod Zeros
