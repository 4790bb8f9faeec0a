-- The laws of this crate: what follows from its definitions.
pub mod Lent
pub mod Few
pub mod Union
