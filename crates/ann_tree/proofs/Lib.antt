pub mod Examples
pub mod Faulty
