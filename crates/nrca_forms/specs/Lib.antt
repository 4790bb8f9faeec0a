pub mod Indexing
pub mod Made
pub mod Packed
pub mod Laws
