pub mod GoesLemmas
pub mod PortLemmas
pub mod TablesLemmas
