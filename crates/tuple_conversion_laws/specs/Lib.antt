pub mod Tuples
