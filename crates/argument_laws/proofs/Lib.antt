mod Filling
mod Giving
pub mod Programs
mod Reading
pub mod Starting
