pub mod Calls
pub mod Constants
pub mod Lowering
pub mod Mapped
pub mod Placing
pub mod Prebuilt
pub mod Texts
