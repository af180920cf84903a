pub mod Judgement
pub mod Laws
pub mod Meaning
pub mod Ready
pub mod Spans
pub mod Views
