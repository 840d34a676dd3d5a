mod Rows
pub mod Walks
pub mod Levels
