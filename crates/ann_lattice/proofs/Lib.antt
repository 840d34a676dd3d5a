pub mod Sites
pub mod Tree
pub mod Ordered
pub mod Joined
pub mod Tested
pub mod Meeting
mod Rows
pub mod Tables
pub mod Grows
pub mod Passed
