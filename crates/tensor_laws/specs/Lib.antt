pub mod Tensor
pub mod Laws
pub mod Switch
pub mod SwitchLaws
