mod Calls
mod Telling
pub mod Tests
