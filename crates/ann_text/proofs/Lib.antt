pub mod Labelled
pub mod Tuples
