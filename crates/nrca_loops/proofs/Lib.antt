pub mod Ranges
pub mod Looked
pub mod Walked
pub mod Merged
pub mod Empty
pub mod Crosses
