pub mod Lets
pub mod Laws
pub mod Search
pub mod Spans
pub mod Operations
pub mod Keeping
pub mod Fitting
