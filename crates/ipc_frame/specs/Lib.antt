pub mod Stream
pub mod View
pub mod Taking
pub mod Framing
pub mod Holding
pub mod Run
pub mod Laws
