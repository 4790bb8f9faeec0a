pub mod Pairs
pub mod Checked
pub mod Inferred
