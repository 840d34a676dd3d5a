pub mod Behind
pub mod Without
