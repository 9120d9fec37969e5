pub mod FilePlaces
pub mod MemShelfClauses
pub mod MemShelfSteps
pub mod Pieces
pub mod PutSteps
pub mod ReadSteps
pub mod WriteSteps
