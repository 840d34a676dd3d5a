pub mod Asked
pub mod Dicts
