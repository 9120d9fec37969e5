pub mod Subsets
pub mod Powers
pub mod Making
pub mod Placing
pub mod Fits
