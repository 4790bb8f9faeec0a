-- The laws of this crate: what follows from its definitions.
pub mod Canon
pub mod Datum
pub mod Indices
pub mod Lists
pub mod Meaning
pub mod Operations
pub mod Order
pub mod Partial
pub mod RowMajor
pub mod Saturation
pub mod Set
pub mod Sorted
pub mod Valid
pub mod ValidLaws
pub mod NodeCountFalls
