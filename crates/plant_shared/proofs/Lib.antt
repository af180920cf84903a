pub mod Crossing
pub mod PassLemmas
pub mod SharedLemmas
