-- The code's side of the definitions.
pub mod Outcome
pub mod Lists
pub mod Rows
