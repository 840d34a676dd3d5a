pub mod Acting
pub mod Writing
