pub mod inner
pub mod Laws
pub mod Shown
pub mod Terms
pub mod Truths
