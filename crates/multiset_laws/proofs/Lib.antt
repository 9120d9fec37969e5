pub mod ProductBound
pub mod CollapseBound
pub mod Leaves
pub mod Balances
