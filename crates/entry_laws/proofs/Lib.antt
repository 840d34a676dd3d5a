pub mod Beginning
pub mod Ending
pub mod Naming
pub mod Programs
