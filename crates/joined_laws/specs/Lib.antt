pub mod Asks
pub mod Fewer
pub mod Renamed
pub mod Straight
