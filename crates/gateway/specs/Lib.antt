pub mod Answer
pub mod DateRows
pub mod Kept
pub mod Needs
pub mod Shaped
pub mod TableRows
pub mod Views
