pub mod CodeWord
pub mod Encoding
pub mod WordLists
pub mod Laws
