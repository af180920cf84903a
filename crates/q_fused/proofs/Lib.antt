pub mod FusedLemmas
