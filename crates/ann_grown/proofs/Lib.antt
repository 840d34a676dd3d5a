-- Lemmas for the laws, and for code that grows an assignment.
pub mod Meeting
pub mod Asked
pub mod Naming
pub mod Forming
