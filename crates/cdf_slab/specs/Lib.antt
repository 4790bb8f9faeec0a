pub mod Numbers
pub mod Slab
pub mod Request
pub mod Walk
pub mod Window
pub mod Going
pub mod Run
