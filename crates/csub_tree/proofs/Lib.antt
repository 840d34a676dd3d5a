mod Runs
pub mod Walks
pub mod Levels
