pub mod Calls
pub mod Done
pub mod Entered
pub mod Indirect
pub mod Raised
