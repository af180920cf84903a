pub mod Chunk
pub mod Fault
pub mod Reading
pub mod Replay
pub mod Count
pub mod Laws
