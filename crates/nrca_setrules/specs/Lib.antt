pub mod Strictly
pub mod Constants
