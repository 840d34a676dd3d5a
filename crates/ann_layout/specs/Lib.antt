pub mod Callees
pub mod Literals
pub mod Layout
