pub mod Move
pub mod Meeting
