pub mod Planned
pub mod Parts
