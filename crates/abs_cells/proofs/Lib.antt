pub mod Crossed
pub mod Index
pub mod Keeping
pub mod Steps
