pub mod Having
pub mod Objects
pub mod Programs
