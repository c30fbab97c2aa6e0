pub mod Bytes
pub mod Spellings
pub mod Tokens
pub mod Facts
pub mod inner
