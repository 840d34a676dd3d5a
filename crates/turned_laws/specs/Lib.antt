pub mod Ordered
pub mod Turned
