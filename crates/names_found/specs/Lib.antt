pub mod Finder
pub mod Locals
pub mod Part
pub mod Units
