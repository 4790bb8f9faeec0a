pub mod Answering
pub mod Prelude
pub mod Going
pub mod LineStreams
pub mod Streams
pub mod Endings
pub mod Keeping
pub mod Completing
