pub mod Hats
pub mod Logs
pub mod Butterflies
