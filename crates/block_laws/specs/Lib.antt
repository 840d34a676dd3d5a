pub mod Escaping
pub mod Exits
pub mod Links
pub mod Operations
