pub mod Dates
pub mod Laws
