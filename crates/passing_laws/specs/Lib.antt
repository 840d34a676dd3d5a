pub mod Done
pub mod Given
pub mod Passed
pub mod Passing
pub mod Standing
