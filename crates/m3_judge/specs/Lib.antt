pub mod Order
pub mod Sources
pub mod Judging
pub mod Blocks
