mod Loading
mod Samples
mod Translation
