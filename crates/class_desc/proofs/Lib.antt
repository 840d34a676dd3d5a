pub mod Displays
pub mod Turns
mod Rows
pub mod Sums
pub mod Intervals
pub mod Exact
