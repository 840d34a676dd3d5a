pub mod Build
pub mod Needs
