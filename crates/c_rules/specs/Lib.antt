pub mod Breaches
pub mod Constants
pub mod Fits
pub mod Specifiers
pub mod Typing
pub mod inner
