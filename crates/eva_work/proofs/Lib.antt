pub mod Deep
pub mod Nodes
pub mod Sums
