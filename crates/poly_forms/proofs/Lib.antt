pub mod Steps
pub mod Degrees
pub mod Interpolating
pub mod FormSteps
