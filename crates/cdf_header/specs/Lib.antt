pub mod Limits
pub mod Header
pub mod HeaderCode
pub mod Format
pub mod Gives
pub mod File
pub mod Places
pub mod Laws
