-- Lemmas for the code.
pub mod Displays
