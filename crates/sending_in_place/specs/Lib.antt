pub mod Table
pub mod RowsBare
pub mod Swept
pub mod Requeue
pub mod Changing
pub mod Untold
pub mod Timed
