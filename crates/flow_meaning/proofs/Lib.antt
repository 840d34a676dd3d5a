pub mod One
pub mod Rows
