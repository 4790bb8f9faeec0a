pub mod RestOrder
pub mod RowMajor
mod Examples
pub mod Merging
