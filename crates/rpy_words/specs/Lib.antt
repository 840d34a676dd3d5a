pub mod Command
pub mod Names
