pub mod Agreeing
pub mod Kept
pub mod Placing
pub mod Coming
