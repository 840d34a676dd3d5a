pub mod Helpers
pub mod Raising
