pub mod Layers
pub mod LeafForm
pub mod Laws
