pub mod Pieces
pub mod Quiet
pub mod Ready
