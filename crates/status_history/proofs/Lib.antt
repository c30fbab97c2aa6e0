pub mod Kept
pub mod Stay
pub mod Versions
