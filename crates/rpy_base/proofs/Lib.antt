mod Arithmetic
mod Ascii
pub mod Marking
mod Told
