pub mod Format
pub mod Laws
pub mod Moments
pub mod Restart
pub mod Stores
