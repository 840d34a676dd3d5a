pub mod Added
pub mod Displayed
pub mod Prefixed
