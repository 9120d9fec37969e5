pub mod Digits
pub mod Spelled
pub mod Column
pub mod Filled
pub mod Summands
pub mod Draft
