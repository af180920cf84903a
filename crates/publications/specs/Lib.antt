pub mod Answer
pub mod Notice
pub mod Sending
