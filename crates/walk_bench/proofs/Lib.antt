pub mod Begins
pub mod Products
