pub mod Positions
pub mod Encodings
pub mod Graphs
pub mod Laws
