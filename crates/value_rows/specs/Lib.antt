pub mod Conversions
pub mod Kinds
pub mod Literals
