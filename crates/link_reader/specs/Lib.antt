pub mod Arrival
pub mod Moved
pub mod Reading
