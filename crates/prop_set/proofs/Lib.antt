pub mod Bits
pub mod Counts
pub mod Lists
pub mod Members
