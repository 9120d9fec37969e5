pub mod Roots
pub mod Form
pub mod Names
