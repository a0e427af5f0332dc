pub mod Sender
pub mod Receiver
pub mod Drains
pub mod Theorem
pub mod NoneFar
