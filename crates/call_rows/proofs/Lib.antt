pub mod Arguments
pub mod Calling
pub mod Initialising
pub mod Values
pub mod Written
