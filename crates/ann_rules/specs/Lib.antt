pub mod Program
pub mod Asks
pub mod Rules
pub mod Hold
