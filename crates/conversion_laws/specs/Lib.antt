pub mod Asked
pub mod Compared
pub mod Constants
pub mod Conversions
pub mod Converted
pub mod Going
pub mod Ordered
pub mod Turns
