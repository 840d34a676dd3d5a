pub mod Families
pub mod Having
