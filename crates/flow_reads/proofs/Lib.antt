pub mod Below
pub mod Shapes
pub mod Ranges
pub mod Walk
pub mod Functions
