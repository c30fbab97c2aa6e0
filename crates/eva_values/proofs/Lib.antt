pub mod Covering
pub mod Marking
pub mod Outcomes
pub mod Passing
pub mod Sound
