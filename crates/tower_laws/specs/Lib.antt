pub mod Tower
pub mod Halves
pub mod Inverse
pub mod FieldLaws
pub mod Lists
pub mod Digits
pub mod ListLaws
