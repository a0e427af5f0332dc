pub mod Fields
pub mod Row
pub mod Limit
pub mod Roundtrip
pub mod Acks
pub mod Slow
pub mod Sizes
pub mod Timeout
