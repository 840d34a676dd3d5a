pub mod Apart
pub mod Blocks
pub mod Calling
pub mod Following
pub mod Helpers
pub mod Nothing
pub mod Operations
pub mod Stepping
