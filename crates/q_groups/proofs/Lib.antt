pub mod GroupLemmas
pub mod CountLemmas
pub mod OrderLemmas
pub mod AtomLemmas
pub mod PieceLemmas
