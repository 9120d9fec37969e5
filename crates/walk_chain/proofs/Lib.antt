pub mod Settling
pub mod Going
pub mod Pieces
