pub mod Tree
pub mod Tells
pub mod Marks
pub mod Ops
