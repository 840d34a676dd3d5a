pub mod Giving
pub mod Quiet
