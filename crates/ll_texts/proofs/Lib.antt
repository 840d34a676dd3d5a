pub mod Following
pub mod Holding
pub mod Numbers
pub mod Reading
pub mod Writing
