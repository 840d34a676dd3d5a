pub mod Constants
pub mod Faults
pub mod Least
pub mod Stands
pub mod Value
pub mod Visit
