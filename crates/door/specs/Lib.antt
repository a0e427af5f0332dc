pub mod Given
pub mod Fresh
pub mod Doors
pub mod Slowness
pub mod Messages
pub mod One
