pub mod Composed
pub mod Counting
pub mod Distinct
pub mod Less
pub mod Roots
mod Rows
pub mod Standing
pub mod Whole
