pub mod Asked
pub mod Splitting
