pub mod Asked
pub mod Joining
