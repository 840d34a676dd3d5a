pub mod Whole
pub mod Never
pub mod Told
pub mod Texts
