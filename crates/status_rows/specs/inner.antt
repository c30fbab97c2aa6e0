-- What the code computes with: no public contract cites it.
pub mod Counted
pub mod Noted
