pub mod Cells
pub mod Heap
pub mod Operations
pub mod Runs
pub mod Statics
pub mod Steps
pub mod Values
