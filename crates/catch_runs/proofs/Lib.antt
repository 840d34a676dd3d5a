pub mod Blocks
pub mod Extras
pub mod Graphs
pub mod Whole
