-- What the steps of a call find: no public contract cites it.
pub mod Keeping
pub mod Steps
pub mod Taking
