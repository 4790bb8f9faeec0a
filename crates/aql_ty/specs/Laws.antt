-- The laws of this crate: what follows from its definitions.
pub mod Operation
pub mod Types
pub mod View
