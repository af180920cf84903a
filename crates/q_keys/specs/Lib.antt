pub mod Ascending
pub mod Cells
pub mod Ranking
pub mod Keys
pub mod Laws
pub mod Pairs
pub mod Spans
