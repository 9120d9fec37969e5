pub mod EntrySteps
pub mod ColumnSteps
pub mod SmallShape
pub mod Bounded
pub mod CountBounds
pub mod PlanBounds
