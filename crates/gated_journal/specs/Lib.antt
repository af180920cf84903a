pub mod Calls
pub mod Format
pub mod Journal
pub mod Laws
pub mod Load
pub mod Payload
pub mod Records
pub mod Steps
