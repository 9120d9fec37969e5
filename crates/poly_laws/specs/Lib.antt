pub mod Polynomial
pub mod Interpolation
pub mod Laws
