pub mod Frames
pub mod Payloads
pub mod Lines
