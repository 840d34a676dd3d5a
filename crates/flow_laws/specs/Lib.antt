pub mod Giving
pub mod Slight
