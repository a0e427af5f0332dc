pub mod RowsBare
pub mod Gated
pub mod Changed
pub mod Acks
pub mod SlowBare
pub mod Adding
pub mod Zeros
