mod Tidy
mod Speaking
mod Blocks
pub mod Whole
