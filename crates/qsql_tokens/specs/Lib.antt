pub mod Tokens
pub mod Parts
pub mod Views
pub mod Limits
