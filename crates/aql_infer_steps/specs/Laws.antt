-- The laws of this crate: what follows from its definitions.
pub mod Complete
pub mod Growing
pub mod Numbering
pub mod Operations
pub mod Principal
pub mod Sound
pub mod Steps
