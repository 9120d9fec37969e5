pub mod RootBound
pub mod Polynomials
pub mod Interpolating
pub mod Products
pub mod Terms
pub mod Batches
