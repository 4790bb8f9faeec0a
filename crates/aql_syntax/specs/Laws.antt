-- The laws of this crate: what follows from its definitions.
pub mod Index
pub mod Lexis
pub mod Measuring
pub mod Kept
pub mod Names
pub mod Rows
pub mod Sound
pub mod Uses
pub mod View
pub mod Weakening
pub mod Written
