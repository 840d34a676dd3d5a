pub mod Lines
pub mod Rows
pub mod Tuples
pub mod Within
