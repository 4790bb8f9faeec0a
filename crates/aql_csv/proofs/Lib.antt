pub mod Digits
pub mod Behind
pub mod Rowed
pub mod OneRead
