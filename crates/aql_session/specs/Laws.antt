-- The laws of this crate: what follows from its definitions.
pub mod Examples
pub mod Faults
