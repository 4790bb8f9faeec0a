pub mod Indices
pub mod Places
