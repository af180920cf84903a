pub mod AddedLemmas
