pub mod Helpers
pub mod Loops
pub mod Print
pub mod Statics
pub mod StringsAsk
pub mod StringsMake
pub mod Words
