pub mod Sums
pub mod Extension
pub mod Form
pub mod SumClaim
pub mod Laws
pub mod TableLaws
