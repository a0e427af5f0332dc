pub mod Hex
pub mod HexRun
pub mod Decimal
pub mod Put
