pub mod Subs
pub mod Weight
