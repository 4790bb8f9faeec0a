pub mod Lexed
pub mod Lexing
pub mod Texts
pub mod Scanning
pub mod Laws
