pub mod CellCounts
pub mod Children
pub mod ConstantParts
pub mod Filling
pub mod FirstParts
pub mod Swaps
mod Examples
