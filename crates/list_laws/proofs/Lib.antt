pub mod Lists
pub mod Names
pub mod Powers
pub mod CeilLog
pub mod Steps
