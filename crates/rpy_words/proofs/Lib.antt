pub mod Files
mod Options
pub mod Tests
