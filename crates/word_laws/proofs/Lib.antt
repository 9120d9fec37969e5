pub mod Vanishing
pub mod Words
pub mod WordSums
pub mod Butterflies
pub mod FoldSteps
pub mod Fits
