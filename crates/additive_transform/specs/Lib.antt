pub mod Basis
pub mod Word
