mod Abstract
mod Digits
mod Goes
mod MachineSide
mod MeanSide
mod Printing
mod Quotients
mod Read
mod Rules
pub mod Translation
mod Whole
