pub mod Decided
pub mod Links
pub mod Opened
pub mod Sites
