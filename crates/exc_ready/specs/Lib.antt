pub mod Along
pub mod Classes
pub mod Raisable
