pub mod Asked
pub mod Done
pub mod Lists
pub mod Presence
pub mod Taken
pub mod Turned
