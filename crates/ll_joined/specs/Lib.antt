pub mod Copied
pub mod Counted
pub mod Joined
pub mod Keeps
pub mod Marked
pub mod Named
