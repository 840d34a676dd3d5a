pub mod Builtins
pub mod Ending
pub mod Forest
pub mod Functions
pub mod Places
pub mod Ranges
