pub mod Chains
pub mod CoreEquations
mod Examples
pub mod Named
pub mod TypeParts
pub mod Weights
