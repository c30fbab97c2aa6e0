-- What a table keeps beside its history: no public contract cites it.
pub mod Kept
pub mod Own
pub mod Rows
