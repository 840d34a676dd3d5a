pub mod Callee
pub mod Follows
pub mod Functions
pub mod OpenCells
pub mod Refused
pub mod Parts
pub mod Reads
pub mod Turns
