pub mod Counts
pub mod Deeper
pub mod Equal
pub mod Keeping
pub mod Pairs
pub mod StrictCounts
pub mod SubstWalk
