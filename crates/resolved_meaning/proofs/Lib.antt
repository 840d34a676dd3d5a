pub mod Bases
pub mod Layers
pub mod Sites
