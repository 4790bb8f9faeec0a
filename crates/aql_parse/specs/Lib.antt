pub mod Cycle
pub mod Constructs
pub mod Words
pub mod Forms
pub mod Parts
pub mod Fields
pub mod Parsed
pub mod Laws
