-- The laws of this crate: what follows from its definitions.
pub mod Packed
pub mod Growth
pub mod Places
pub mod Runs
pub mod Pairs
pub mod Kinds
pub mod Valid
