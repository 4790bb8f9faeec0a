mod Examples
pub mod Checks
pub mod Known
