pub mod Caught
pub mod Exits
pub mod Handlers
