pub mod Replies
pub mod Reply
