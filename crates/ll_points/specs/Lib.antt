pub mod Agrees
pub mod Points
