pub mod Links
pub mod Exits
