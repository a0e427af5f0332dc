pub mod Tiles
pub mod Laws
