pub mod Arithmetic
pub mod Constants
pub mod Machine
pub mod Same
pub mod Slots
