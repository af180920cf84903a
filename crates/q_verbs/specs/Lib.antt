pub mod Aggregates
pub mod Kinds
pub mod Like
pub mod Lists
pub mod Numbers
pub mod Places
pub mod Sides
pub mod Tests
