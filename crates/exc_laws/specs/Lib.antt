pub mod Alike
pub mod Follows
pub mod Holds
pub mod Ready
pub mod Stands
