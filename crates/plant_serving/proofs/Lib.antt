pub mod Crossing
pub mod StartLemmas
pub mod WorkLemmas
