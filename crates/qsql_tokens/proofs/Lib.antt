pub mod Names
pub mod Lexed
pub mod Pushed
