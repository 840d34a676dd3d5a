pub mod Alike
pub mod Follows
pub mod Same
pub mod Stands
