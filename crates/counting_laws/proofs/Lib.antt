pub mod Bounds
pub mod Removal
pub mod Permutations
pub mod Several
pub mod Chains
