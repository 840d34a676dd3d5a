pub mod Asked
pub mod Changed
pub mod Done
pub mod Lookups
pub mod Operands
