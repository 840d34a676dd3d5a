pub mod Faults
pub mod Least
pub mod Rows
pub mod Settled
