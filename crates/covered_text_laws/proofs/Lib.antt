pub mod Answers
pub mod Bridged
pub mod Operands
pub mod Operations
pub mod Preparing
