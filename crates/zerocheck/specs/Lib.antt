pub mod Group
pub mod Zero
pub mod First
pub mod Given
pub mod Opening
pub mod ZeroProver
