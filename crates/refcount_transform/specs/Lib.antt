pub mod Blocks
pub mod Changes
pub mod Counted
pub mod Made
pub mod Marks
pub mod Plan
pub mod Seen
