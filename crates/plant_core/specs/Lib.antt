pub mod Access
pub mod Adds
pub mod Load
pub mod Plant
pub mod Progress
pub mod Turns
