pub mod Called
pub mod Calls
pub mod Defaults
pub mod Initialised
pub mod Looked
pub mod Several
