pub mod Parts
pub mod Walk
pub mod Functions
pub mod Shaped
pub mod Escaping
pub mod Beginning
