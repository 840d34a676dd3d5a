pub mod Keys
mod Rows
pub mod Turns
