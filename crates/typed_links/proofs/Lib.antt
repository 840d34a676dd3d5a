pub mod Linking
pub mod Shaping
pub mod Exiting
