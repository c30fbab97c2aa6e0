pub mod Laws
pub mod Points
pub mod Rows
pub mod Tables
pub mod inner
