-- Lemmas for the code.
pub mod Marks
pub mod Items
