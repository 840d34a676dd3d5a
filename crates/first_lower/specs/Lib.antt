pub mod Built
pub mod Lower
