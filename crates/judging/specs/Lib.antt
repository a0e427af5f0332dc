pub mod Weights
pub mod Words
pub mod Entry
