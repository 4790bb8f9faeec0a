pub mod Packing
pub mod Kept
pub mod Stored
pub mod Held
pub mod CellNumbers
pub mod Runs
pub mod Groups
pub mod Laws
