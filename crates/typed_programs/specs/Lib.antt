pub mod Made
pub mod Operations
pub mod Parts
pub mod Seeing
