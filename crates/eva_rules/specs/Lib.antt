pub mod Entries
pub mod Laws
pub mod Meant
pub mod Passing
pub mod Points
pub mod Statements
pub mod Thresholds
pub mod Writing
