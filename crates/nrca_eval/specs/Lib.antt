pub mod Runs
pub mod Parts
pub mod Added
pub mod Loops
pub mod Gathered
pub mod Laws
