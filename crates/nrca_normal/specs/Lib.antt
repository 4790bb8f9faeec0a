pub mod Ways
pub mod Order
pub mod Conditions
pub mod Rewriting
pub mod Quiet
pub mod Descent
pub mod Planned
pub mod Laws
