pub mod Block
pub mod Checked
pub mod Ends
pub mod Grows
pub mod Order
pub mod Read
pub mod Rounds
mod Rows
pub mod Sight
pub mod Slots
pub mod Stands
pub mod Steps
pub mod Whole
