mod Examples
pub mod Said
pub mod Numerals
pub mod Strings
pub mod Spans
pub mod Reading
pub mod Meaning
