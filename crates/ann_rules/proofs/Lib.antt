pub mod Facts
pub mod Called
pub mod Asked
pub mod Flows
pub mod Mono
mod Rows
