pub mod Arity
pub mod Call
pub mod Fault
pub mod Modify
pub mod Typing
