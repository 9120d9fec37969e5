pub mod HeadAgain
pub mod HeadSteps
pub mod NextSteps
pub mod PieceSteps
pub mod TextSteps
pub mod ValueSteps
pub mod WriteSteps
