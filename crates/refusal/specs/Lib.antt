pub mod Tests
pub mod Refusals
pub mod Verdicts
pub mod Answers
