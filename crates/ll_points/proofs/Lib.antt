pub mod Cores
pub mod Found
pub mod Given
pub mod Leading
mod Rows
pub mod Runs
pub mod Shapes
pub mod Statics
pub mod Steps
