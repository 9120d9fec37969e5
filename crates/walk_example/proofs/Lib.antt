pub mod Lawful
pub mod Meetings
pub mod Steps
pub mod Moving
