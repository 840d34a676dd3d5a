pub mod Beginnings
pub mod Raising
pub mod Shapes
