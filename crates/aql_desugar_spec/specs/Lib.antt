pub mod Start
pub mod Scopes
pub mod Positions
pub mod Laws
