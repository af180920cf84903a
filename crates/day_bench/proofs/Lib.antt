pub mod TradeLemmas
