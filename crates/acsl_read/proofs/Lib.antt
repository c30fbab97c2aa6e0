pub mod Ahead
pub mod OneOf
pub mod Words
pub mod Rows
pub mod Ranks
pub mod Loops
pub mod Chains
pub mod Programs
