pub mod Entries
mod Causes
mod KeptExamples
mod Positions
pub mod Examples
pub mod Past
