pub mod Countable
pub mod Passes
pub mod Watch
