pub mod Blocks
pub mod Checked
