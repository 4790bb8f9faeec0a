pub mod Entries
pub mod Script
pub mod Causes
pub mod Limits
pub mod Laws
