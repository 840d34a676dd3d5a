pub mod Arguments
pub mod Programs
