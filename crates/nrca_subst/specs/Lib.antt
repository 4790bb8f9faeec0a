pub mod Depth
pub mod Kept
pub mod Strictly
pub mod Laws
