pub mod Basis
pub mod Columns
pub mod Laws
