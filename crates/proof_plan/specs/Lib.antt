pub mod Plan
pub mod Sizes
pub mod PlanParts
pub mod PlanFits
pub mod Small
