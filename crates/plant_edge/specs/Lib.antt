pub mod Causes
pub mod Link
pub mod Outside
