-- Lemmas for the code.
pub mod Counted
pub mod Read
pub mod Tied
