pub mod Grammar
pub mod Verdicts
pub mod Machine
pub mod States
pub mod Reading
pub mod Laws
