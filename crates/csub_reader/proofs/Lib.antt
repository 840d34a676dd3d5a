pub mod Strip
pub mod Digits
pub mod Longer
pub mod Loops
pub mod Nested
pub mod Pieces
pub mod Placed
pub mod Turns
