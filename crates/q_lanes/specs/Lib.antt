pub mod Lanes
pub mod Loops
