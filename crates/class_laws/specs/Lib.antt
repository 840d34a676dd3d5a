pub mod Asked
pub mod Classes
pub mod Done
pub mod Instances
pub mod Rows
pub mod Starting
