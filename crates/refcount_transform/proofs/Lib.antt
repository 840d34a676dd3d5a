pub mod Behind
pub mod Emitted
pub mod Marked
pub mod Numbers
pub mod Places
