pub mod FrontLemmas
pub mod TakingLemmas
pub mod UniqueLemmas
pub mod ReadLemmas
pub mod RunLemmas
pub mod MessageLemmas
