-- Lemmas for the laws.
pub mod Placing
pub mod Spotting
