pub mod Switching
pub mod SwitchFields
pub mod BitWeights
pub mod SwitchProver
