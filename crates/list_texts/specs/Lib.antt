pub mod Arguments
pub mod Splitting
