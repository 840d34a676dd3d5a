pub mod Explicit
pub mod Families
pub mod Live
pub mod Pieces
pub mod Raising
