pub mod Charged
pub mod Computed
pub mod Counted
pub mod Reached
mod Rows
