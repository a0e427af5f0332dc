pub mod Messages
pub mod Reading
pub mod Writing
pub mod Reliable
pub mod RoundTrip
pub mod Encoding
pub mod Reasons
