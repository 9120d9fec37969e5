pub mod Carried
pub mod Powers
pub mod Narrow
pub mod LevelsNest
pub mod InverseTable
pub mod BytesAgain
pub mod NumbersFit
