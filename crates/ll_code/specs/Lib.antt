pub mod Levels
pub mod Machine
pub mod Meaning
pub mod State
pub mod Typed
