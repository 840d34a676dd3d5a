pub mod Listed
pub mod Stating
