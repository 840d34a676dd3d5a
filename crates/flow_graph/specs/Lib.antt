pub mod GraphText
pub mod Owners
pub mod Values
pub mod Whole
