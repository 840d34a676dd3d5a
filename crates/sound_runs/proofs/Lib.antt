pub mod Needs
pub mod Env
pub mod Steps
pub mod Whole
pub mod Starting
pub mod Meeting
