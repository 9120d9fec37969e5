pub mod SwitchLaws
pub mod Padding
pub mod TensorSteps
pub mod SwitchSteps
pub mod BitSteps
pub mod CombiningSteps
pub mod ProverSteps
