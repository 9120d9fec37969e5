pub mod Blocks
pub mod Equal
