pub mod Among
pub mod Containing
pub mod Telling
