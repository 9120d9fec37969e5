pub mod AndThen
pub mod CeilLog
pub mod Laws
