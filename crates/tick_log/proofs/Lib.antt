pub mod Chunks
pub mod Tables
pub mod Replays
pub mod Symbols
pub mod Made
pub mod Steps
pub mod Entries
