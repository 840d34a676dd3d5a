pub mod Operations
pub mod Results
pub mod Standing
pub mod Suits
pub mod Tidy
