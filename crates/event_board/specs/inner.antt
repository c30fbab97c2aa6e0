-- What the code computes with: no public contract cites it.
pub mod Rows
pub mod Table
