pub mod LayerSteps
pub mod LeafSteps
