pub mod Asof
pub mod Heads
pub mod Judged
pub mod Lasts
pub mod Lines
pub mod Sides
pub mod Sources
pub mod Views
