pub mod Causes
pub mod Frames
pub mod Contents
pub mod Calls
pub mod Memory
pub mod Laws
