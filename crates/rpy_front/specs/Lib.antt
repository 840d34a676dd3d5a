pub mod Modules
pub mod Names
