pub mod Begins
pub mod Claims
pub mod Ends
pub mod Terms
