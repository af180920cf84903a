pub mod CauseLemmas
pub mod FoundLemmas
