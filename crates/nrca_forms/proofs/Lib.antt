pub mod Strictly
pub mod Arities
pub mod Grouping
pub mod Extents
pub mod Arrays
pub mod Members
pub mod Packed
