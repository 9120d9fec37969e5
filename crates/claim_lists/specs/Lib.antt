pub mod OnColumn
pub mod ByColumn
