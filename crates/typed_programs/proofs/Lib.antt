pub mod Attributes
pub mod Cells
pub mod Operations
pub mod Parts
pub mod Seeing
pub mod Spots
