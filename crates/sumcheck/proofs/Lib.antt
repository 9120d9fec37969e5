pub mod RoundSteps
pub mod Entries
pub mod Lawful
pub mod Promise
pub mod RowSteps
pub mod Following
pub mod Told
