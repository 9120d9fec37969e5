pub mod Course
pub mod Kept
pub mod Linked
pub mod Linking
pub mod Stages
pub mod Taking
