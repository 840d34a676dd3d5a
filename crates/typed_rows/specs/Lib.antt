pub mod Going
pub mod Programs
pub mod Rows
