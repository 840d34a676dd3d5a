pub mod Alike
pub mod Among
pub mod Asked
