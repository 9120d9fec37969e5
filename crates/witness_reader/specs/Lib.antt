pub mod Putting
pub mod Witness
pub mod WitnessGives
pub mod WitnessMeaning
