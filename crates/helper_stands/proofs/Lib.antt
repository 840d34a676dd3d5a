pub mod Asks
pub mod Helpers
pub mod Shared
