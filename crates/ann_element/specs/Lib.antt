pub mod Sites
pub mod Size
