pub mod Spots
pub mod Lowest
pub mod Passed
