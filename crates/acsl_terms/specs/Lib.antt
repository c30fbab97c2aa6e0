pub mod Breaches
pub mod Clauses
pub mod First
pub mod Fits
pub mod Meaning
pub mod Names
pub mod inner
