-- The laws of this crate: what follows from its definitions.
pub mod Knowns
pub mod Parts
pub mod Positions
pub mod Scopes
