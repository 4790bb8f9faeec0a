pub mod Walking
pub mod Inferring
pub mod Progress
