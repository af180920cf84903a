pub mod NewLemmas
