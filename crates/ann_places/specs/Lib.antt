pub mod Placed
pub mod Spots
