pub mod Checks
pub mod Covers
pub mod Decides
pub mod Laws
pub mod Rows
pub mod Standing
pub mod Typed
pub mod Widening
