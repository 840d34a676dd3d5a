-- Lemmas for the code.
pub mod Ending
pub mod Nodes
