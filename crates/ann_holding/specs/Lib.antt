pub mod Links
pub mod Holds
