pub mod Notes
pub mod Placing
pub mod Programs
pub mod inner
