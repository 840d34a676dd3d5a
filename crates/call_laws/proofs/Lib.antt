pub mod Called
pub mod Initialised
pub mod Looked
pub mod Methods
pub mod Passed
pub mod Raising
