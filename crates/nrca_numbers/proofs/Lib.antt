pub mod Arms
mod Cells
mod Items
pub mod Members
pub mod Over
mod Pairs
pub mod Places
pub mod Rows
pub mod Slots
