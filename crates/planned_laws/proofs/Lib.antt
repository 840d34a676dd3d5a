pub mod Cells
pub mod Elements
pub mod Standing
pub mod Spotted
