pub mod Calm
pub mod Catching
pub mod Entering
pub mod Readying
pub mod Setting
