pub mod Owning
mod Placing
pub mod Filling
