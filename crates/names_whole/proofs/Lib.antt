pub mod Bodies
pub mod Bound
pub mod Classes
pub mod Clauses
pub mod Declared
pub mod Entry
pub mod Fault
pub mod Functions
pub mod Held
pub mod Made
pub mod Numbers
pub mod Pairs
pub mod Prebuilt
pub mod Places
pub mod Program
mod Rows
pub mod Uses
