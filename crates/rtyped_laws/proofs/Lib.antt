pub mod Asking
pub mod Helping
pub mod Objects
pub mod Programs
pub mod Raised
pub mod Values
