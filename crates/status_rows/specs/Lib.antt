pub mod Emission
pub mod Index
pub mod Places
pub mod Reached
pub mod inner
