pub mod Callees
pub mod Nodes
pub mod Returns
pub mod Twice
