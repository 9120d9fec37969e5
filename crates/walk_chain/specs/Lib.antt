pub mod Chain
pub mod LawfulChain
pub mod SameSteps
pub mod Following
