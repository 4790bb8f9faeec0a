pub mod Loops
pub mod Formats
pub mod Fronts
pub mod Readings
pub mod Saturate
pub mod Least
pub mod Pitches
