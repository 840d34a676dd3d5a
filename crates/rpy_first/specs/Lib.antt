pub mod FirstPath
pub mod Gives
pub mod Program
pub mod Source
