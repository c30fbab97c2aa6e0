pub mod Cover
pub mod Cuts
pub mod Typed
