pub mod Values
pub mod Within
pub mod Runs
pub mod Walks
pub mod Parts
pub mod Evaluates
pub mod Laws
