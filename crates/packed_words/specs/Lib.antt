pub mod Exchange
pub mod Multiples
pub mod Bytes
pub mod Packing
pub mod LaneWords
