pub mod Emission
pub mod Lines
pub mod Names
pub mod Reading
pub mod Values
