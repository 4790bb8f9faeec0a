-- The laws of this crate: what follows from its definitions.
pub mod Format
pub mod Header
pub mod Size
