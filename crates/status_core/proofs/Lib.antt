pub mod Answered
pub mod Keeping
pub mod Owned
pub mod Placings
pub mod Recalled
pub mod Written
