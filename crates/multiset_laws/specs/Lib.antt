pub mod Fingerprint
pub mod Balance
pub mod Laws
