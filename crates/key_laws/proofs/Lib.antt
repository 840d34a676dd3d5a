pub mod Joining
pub mod Apart
pub mod Asking
pub mod Needing
pub mod Growing
