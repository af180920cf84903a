pub mod Groups
pub mod OnePass
pub mod Ready
