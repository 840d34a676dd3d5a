pub mod Laying
pub mod Shaped
pub mod Sited
