pub mod Asked
pub mod Answers
pub mod Did
pub mod Bridges
pub mod Kept
pub mod Runs
