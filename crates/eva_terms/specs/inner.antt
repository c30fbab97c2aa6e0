pub mod Frames
pub mod Passes
