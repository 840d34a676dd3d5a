pub mod Entering
pub mod Looking
pub mod Masked
pub mod Placing
pub mod Words
