pub mod Asked
pub mod Done
pub mod Texts
