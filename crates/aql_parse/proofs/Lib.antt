pub mod CycleSteps
pub mod CycleLoops
pub mod Branches
pub mod ListSteps
pub mod PrimarySteps
pub mod Strings
pub mod Steps
pub mod Loops
pub mod Fields
mod Said
