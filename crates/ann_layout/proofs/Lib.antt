-- Lemmas for the code.
pub mod Rows
