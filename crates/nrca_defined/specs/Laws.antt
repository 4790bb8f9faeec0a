-- The laws of this crate: what follows from its definitions.
pub mod Cells
pub mod Defined
pub mod Literals
pub mod Operations
