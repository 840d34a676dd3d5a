-- Lemmas for the code.
pub mod Settling
pub mod Counted
