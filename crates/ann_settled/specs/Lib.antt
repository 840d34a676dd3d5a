pub mod Read
pub mod Nodes
pub mod Settled
