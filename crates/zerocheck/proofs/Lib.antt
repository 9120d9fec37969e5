pub mod ZeroLaws
pub mod FormLaws
pub mod FirstLaws
pub mod GroupSteps
pub mod StepsBelow
pub mod WalkSteps
pub mod ProverSteps
