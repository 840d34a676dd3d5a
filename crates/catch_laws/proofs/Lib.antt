pub mod Cutting
pub mod Exiting
pub mod Following
pub mod Handling
pub mod Landing
pub mod Reading
pub mod Telling
