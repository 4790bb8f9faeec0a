-- The laws of this crate: what follows from its definitions.
pub mod Ways
pub mod Order
pub mod Conditions
pub mod Rewriting
pub mod Typed
pub mod Quiet
pub mod Descent
pub mod Planned
