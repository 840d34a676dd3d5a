pub mod Beginning
pub mod Knowing
pub mod Layouts
pub mod Rows
pub mod Starting
pub mod Statics
pub mod Typing
