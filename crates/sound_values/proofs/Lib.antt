pub mod Larger
pub mod Growing
pub mod Objects
