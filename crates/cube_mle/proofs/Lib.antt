pub mod Points
pub mod Doubling
pub mod Folds
pub mod Stepping
pub mod Adding
