pub mod Forms
pub mod Nodes
pub mod Tables
pub mod Told
