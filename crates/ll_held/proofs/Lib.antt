pub mod Calming
pub mod Keeping
pub mod Placing
