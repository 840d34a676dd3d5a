pub mod Begins
pub mod Classes
pub mod Ends
pub mod Programs
