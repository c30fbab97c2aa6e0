pub mod Formed
pub mod Least
pub mod Newest
pub mod Sorts
