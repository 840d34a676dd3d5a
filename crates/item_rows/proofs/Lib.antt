pub mod Standing
pub mod Staying
pub mod Behind
pub mod Adding
pub mod Displays
pub mod Tupled
pub mod Tuples
pub mod Among
