pub mod Laws
pub mod Manifest
pub mod Records
