pub mod Attributes
pub mod Calls
pub mod Instances
pub mod Lowering
pub mod Seen
pub mod Smalls
pub mod Vtables
