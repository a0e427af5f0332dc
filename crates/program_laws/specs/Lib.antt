pub mod Unique
pub mod Comparing
pub mod NothingWaits
pub mod TakenBytes
