pub mod ReadingSteps
pub mod Members
pub mod KeptWitness
pub mod GivenWitness
pub mod Putting
