pub mod BoardLemmas
