pub mod Counting
pub mod Looking
pub mod Making
pub mod Plain
pub mod Saying
pub mod Telling
pub mod Words
