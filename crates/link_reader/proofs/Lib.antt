pub mod ReaderLemmas
