-- Lemmas for the code.
pub mod Holding
