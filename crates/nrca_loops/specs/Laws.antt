-- The laws of this crate: what follows from its definitions.
pub mod Parts
pub mod Run
pub mod Within
