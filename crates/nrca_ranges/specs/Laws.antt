-- The laws of this crate: what follows from its definitions.
pub mod Bounds
pub mod Entered
pub mod Forms
pub mod Intervals
pub mod Ordered
pub mod Own
pub mod Positions
pub mod Replaced
pub mod Sound
pub mod Strict
pub mod Summaries
pub mod Views
pub mod Walk
