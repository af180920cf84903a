pub mod BlockLemmas
pub mod AmongLemmas
pub mod LawLemmas
pub mod LikeLemmas
pub mod WithinLemmas
