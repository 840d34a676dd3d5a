pub mod Laws
pub mod Lines
pub mod Read
pub mod ReadFile
pub mod ReadLine
pub mod ReadStatement
pub mod Text
pub mod Written
