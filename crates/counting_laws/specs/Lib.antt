pub mod Counting
pub mod Multiset
pub mod Laws
