pub mod Pairs
pub mod Rows
pub mod Distinct
pub mod Bounded
pub mod Places
pub mod Runs
pub mod Laws
