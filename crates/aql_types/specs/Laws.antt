-- The laws of this crate: what follows from its definitions.
pub mod Homes
pub mod Kept
pub mod Pushing
pub mod Shapes
pub mod Trees
