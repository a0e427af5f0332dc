pub mod Moves
pub mod NewVerdict
pub mod ReadyWith
pub mod Acked
