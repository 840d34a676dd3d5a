pub mod Good
pub mod Rooms
pub mod Runs
