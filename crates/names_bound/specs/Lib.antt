pub mod Base
pub mod Clash
pub mod Declare
pub mod Fault
pub mod Imports
pub mod Known
pub mod Scopes
pub mod Table
