pub mod Filters
pub mod Parts
pub mod Steps
pub mod SymbolSet
pub mod Told
