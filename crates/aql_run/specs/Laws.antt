-- The laws of this crate: what follows from its definitions.
pub mod Answered
pub mod Codes
pub mod Refusals
pub mod Examples
