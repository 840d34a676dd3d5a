-- Lemmas for the code.
pub mod Raising
pub mod Steps
pub mod Stepping
mod Pieces
pub mod Asking
