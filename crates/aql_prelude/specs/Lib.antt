pub mod Constants
pub mod Prelude
pub mod Typing
pub mod Laws
