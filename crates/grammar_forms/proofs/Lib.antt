pub mod Law
pub mod Again
pub mod Unique
pub mod Readings
pub mod Light
