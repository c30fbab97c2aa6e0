pub mod Entries
pub mod Laws
pub mod Links
pub mod Ranges
pub mod inner
