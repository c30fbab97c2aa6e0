pub mod Counted
pub mod Histories
pub mod Noted
pub mod Placed
pub mod Reach
pub mod Recounted
pub mod Unreached
