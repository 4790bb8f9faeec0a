pub mod SignNumbers
pub mod Parsing
pub mod Stops
pub mod Readings
pub mod Scripts
pub mod Laws
