pub mod Forms
pub mod Derives
pub mod Sound
pub mod Weights
pub mod inner
