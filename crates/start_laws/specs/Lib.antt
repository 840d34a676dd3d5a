pub mod Begins
pub mod Constants
pub mod Given
pub mod Knowing
pub mod Made
