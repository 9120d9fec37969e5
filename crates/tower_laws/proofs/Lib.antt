pub mod Ring
pub mod Levels
pub mod Field
pub mod Rules
pub mod Roots
pub mod Inverses
pub mod Halves
pub mod Lists
