pub mod Copies
pub mod Given
pub mod Slight
