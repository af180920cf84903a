pub mod Entries
pub mod Told
pub mod Seated
pub mod Law
pub mod Lends
