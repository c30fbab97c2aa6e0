pub mod Nodes
pub mod Ranges
pub mod Sights
pub mod Sums
