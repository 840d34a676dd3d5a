pub mod Erased
pub mod Faults
