pub mod Meant
pub mod Uncopied
