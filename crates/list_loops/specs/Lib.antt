pub mod Changing
pub mod Loops
pub mod Making
