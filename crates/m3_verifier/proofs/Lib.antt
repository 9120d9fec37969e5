pub mod QuerySteps
pub mod ReadingSteps
pub mod VerdictSteps
pub mod WalkSteps
